-- The sign that a text begins with: the first of the list that fits is the longest, for no sign stands before one that it begins.
-- Assumes nothing.
use mathlib.Core.Bool.{Bool, true, false, ◌&&◌, cond}
use mathlib.Core.Path.{◌≡◌, refl, sym, ◌∙◌, ap}
use mathlib.Core.Logic.{inl, inr}
use mathlib.Core.List.{List, [], ◌∷◌}
use mathlib.Core.Option.{Option, none, some}
use Prim.Native.Nat.{ℕ, zero, suc, ◌≤◌, ◌<◌}
use Prim.Native.String.{String}
use native.Mathlib.Decide.{dec_le}
use native.Mathlib.Omega.{arith}
use lib.ListN.{length, get_or, take}
use lib.Dec.{eqb, ltb}
use borrow.Author.Tests.{eq-eqb, eqb-true, ltb-true}
use Rattle.ll1.proofs.Sets.{clash, and_left, and_right}
use Rattle.language.specs.Words.{bytes, letter, digit, blank, signs, Among, first_of}
use Rattle.language.specs.Scan.{begins}

pub begins-take : (n : ℕ) (l : List ℕ) → begins l (take n l) ≡ true
unfolding begins
begins-take zero l = refl
begins-take (suc n) [] = refl
begins-take (suc n) (y ∷ l) = rw (eq-eqb y y refl) (begins-take n l)

pub taken : (l w : List ℕ) → begins l w ≡ true → take (length w) l ≡ w
unfolding begins
taken l [] e = refl
taken [] (x ∷ w) e = clash (sym e)
taken (y ∷ l) (x ∷ w) e =
    let same : x ≡ y = eqb-true x y (and_left (eqb x y) (begins l w) e) in
    rw (sym same) (ap (λ (v : List ℕ). x ∷ v) (taken l w (and_right (eqb x y) (begins l w) e)))

pub fits : (l w : List ℕ) → begins l w ≡ true → length w ≤ length l
unfolding begins
fits l [] e = omega arith
fits [] (x ∷ w) e = clash (sym e)
fits (y ∷ l) (x ∷ w) e = omega (arith, fits l w (and_right (eqb x y) (begins l w) e))

-- of two beginnings the longer begins with the shorter
nested : (l v w : List ℕ) → begins l v ≡ true → begins l w ≡ true → length w ≤ length v → begins v w ≡ true
unfolding begins
nested l v [] e f h = refl
nested l [] (x ∷ w) e f h = absurd (omega arith)
nested [] (z ∷ v) (x ∷ w) e f h = clash (sym e)
nested (y ∷ l) (z ∷ v) (x ∷ w) e f h =
    let p : z ≡ y = eqb-true z y (and_left (eqb z y) (begins l v) e) in
    let q : x ≡ y = eqb-true x y (and_left (eqb x y) (begins l w) f) in
    rw (eq-eqb x z (q ∙ sym p)) (nested l v w (and_right (eqb z y) (begins l v) e) (and_right (eqb x y) (begins l w) f) (omega arith))

-- ---- the list

-- no sign of the rest begins with s
unfoldable shorter : String → List String → Bool
shorter s [] = true
shorter s (t ∷ ss) = cond (begins (bytes t) (bytes s)) false (shorter s ss)

unfoldable ordered : List String → Bool
ordered [] = true
ordered (s ∷ ss) = shorter s ss && ordered ss

-- a sign has a byte, and begins with no letter, digit or blank
unfoldable plain : List String → Bool
plain [] = true
plain (s ∷ ss) =
    ltb 0 (length (bytes s))
    && cond (letter (get_or (bytes s) 0 0)) false (cond (digit (get_or (bytes s) 0 0)) false (cond (blank (get_or (bytes s) 0 0)) false (plain ss)))

signs_ordered : ordered signs ≡ true
unfolding ordered shorter begins bytes signs
signs_ordered = refl

signs_plain : plain signs ≡ true
unfolding plain letter digit blank bytes signs
signs_plain = refl

unless-test : (a b : Bool) → cond a false b ≡ true → a ≡ false
unless-test true b f = sym f
unless-test false b f = refl

unless-rest : (a b : Bool) → cond a false b ≡ true → b ≡ true
unless-rest true b f = clash (sym f)
unless-rest false b f = f

shorter_among : (s t : String) (ss : List String) → shorter s ss ≡ true → Among t ss → begins (bytes t) (bytes s) ≡ false
unfolding shorter
shorter_among s t [] e a = absurd a
shorter_among s t (u ∷ ss) e (inl p) = rw p (unless-test (begins (bytes u) (bytes s)) (shorter s ss) e)
shorter_among s t (u ∷ ss) e (inr a) = shorter_among s t ss (unless-rest (begins (bytes u) (bytes s)) (shorter s ss) e) a

pub record Plain (s : String) : Type 0 where
  pub some : 0 < length (bytes s)
  pub no_letter : letter (get_or (bytes s) 0 0) ≡ false
  pub no_digit : digit (get_or (bytes s) 0 0) ≡ false
  pub no_blank : blank (get_or (bytes s) 0 0) ≡ false

plain_among : (s : String) (ss : List String) → plain ss ≡ true → Among s ss → Plain s
unfolding plain
plain_among s [] e a = absurd a
plain_among s (t ∷ ss) e a =
    let c = get_or (bytes t) 0 0 in
    let e₁ = and_right (ltb 0 (length (bytes t))) (cond (letter c) false (cond (digit c) false (cond (blank c) false (plain ss)))) e in
    let e₂ = unless-rest (letter c) (cond (digit c) false (cond (blank c) false (plain ss))) e₁ in
    let e₃ = unless-rest (digit c) (cond (blank c) false (plain ss)) e₂ in
    go (record {
      some = ltb-true 0 (length (bytes t)) (and_left (ltb 0 (length (bytes t))) _ e);
      no_letter = unless-test (letter c) _ e₁;
      no_digit = unless-test (digit c) _ e₂;
      no_blank = unless-test (blank c) _ e₃;
    }) (plain_among s ss (unless-rest (blank c) (plain ss) e₃)) a
  where
    go : Plain t → (Among s ss → Plain s) → Among s (t ∷ ss) → Plain s
    go x f (inl p) = rw p x
    go x f (inr b) = f b

pub sign_plain : (s : String) → Among s signs → Plain s
sign_plain s a = plain_among s signs signs_plain a

-- ---- the sign that is taken

-- what the first that fits is: the longest that fits, and nothing only where none fits
pub data Taken (l : List ℕ) (ss : List String) : Option String → Type 0 where
  nothing : ((t : String) → Among t ss → begins l (bytes t) ≡ true → ⊥) → Taken l ss none
  longest : (s : String) → Among s ss → begins l (bytes s) ≡ true → ((t : String) → Among t ss → begins l (bytes t) ≡ true → length (bytes t) ≤ length (bytes s)) → Taken l ss (some s)

first_is : (l : List ℕ) (ss : List String) → ordered ss ≡ true → Taken l ss (first_of (begins l) ss)
unfolding ordered first_of
first_is l [] e = nothing (λ t a h. a)
first_is l (s ∷ ss) e = go (begins l (bytes s)) refl (first_is l ss (and_right (shorter s ss) (ordered ss) e))
  where
    least : begins l (bytes s) ≡ true → (t : String) → Among t (s ∷ ss) → begins l (bytes t) ≡ true → length (bytes t) ≤ length (bytes s)
    least h t (inl p) f = omega (arith, ap (λ (u : String). length (bytes u)) p)
    least h t (inr a) f = dec (dec_le (length (bytes t)) (length (bytes s)))
      where
        dec : Dec (length (bytes t) ≤ length (bytes s)) → length (bytes t) ≤ length (bytes s)
        dec (yes k) = k
        dec (no k) = clash (sym (nested l (bytes t) (bytes s) f h (omega arith)) ∙ shorter_among s t ss (and_left (shorter s ss) (ordered ss) e) a)

    not_here : (t : String) → begins l (bytes s) ≡ false → Among t (s ∷ ss) → begins l (bytes t) ≡ true → Among t ss
    not_here t f (inl p) g = clash (sym g ∙ ap (λ (u : String). begins l (bytes u)) p ∙ f)
    not_here t f (inr a) g = a

    more : {o : Option String} → begins l (bytes s) ≡ false → Taken l ss o → Taken l (s ∷ ss) o
    more f (nothing n) = nothing (λ t a g. n t (not_here t f a g) g)
    more f (longest u a g m) = longest u (inr a) g (λ t b h. m t (not_here t f b h) h)

    go : (b : Bool) → begins l (bytes s) ≡ b → Taken l ss (first_of (begins l) ss) → Taken l (s ∷ ss) (elim b [ true ↦ some s | false ↦ first_of (begins l) ss ])
    go true f x = longest s (inl refl) f (least f)
    go false f x = more f x

pub sign-taken : (l : List ℕ) → Taken l signs (first_of (begins l) signs)
sign-taken l = first_is l signs signs_ordered
