-- The first spelling that passes a test, by its number and by its kind.
-- Assumes nothing.
use mathlib.Core.Bool.{Bool, true, false, not, cond}
use mathlib.Core.Path.{◌≡◌, refl, sym, ◌∙◌, ap}
use mathlib.Core.List.{List, [], ◌∷◌, ◌++◌}
use mathlib.Core.Option.{Option, none, some}
use Prim.Native.Nat.{ℕ, zero, suc, ◌+◌, ◌-◌, ◌<◌, ◌≤◌}
use Prim.Native.String.{String}
use native.Mathlib.Nat.{add-zero, add-suc, suc-add}
use native.Mathlib.Omega.{arith}
use lib.ListN.{length, get_or, take}
use Rattle.ll1.proofs.Sets.{clash}
use Rattle.file_law.specs.Answer.{unless, first_not}
use Rattle.language.specs.Words.{bytes, same, first_of}
use Rattle.language.specs.Scan.{begins}
use Rattle.language.proofs.Signs.{begins-take}
use Rattle.spellings.proofs.Same.{same_self, same_true}
use Rattle.spellings.proofs.Chain.{not_before}

-- ---- by its number

-- the string with a number, if there is one
unfoldable pub nth : List String → ℕ → Option String
nth [] j = none
nth (s ∷ ss) zero = some s
nth (s ∷ ss) (suc j) = nth ss j

pub nth_some : (ss : List String) (j : ℕ) → j < length ss → nth ss j ≡ some (get_or ss j "")
unfolding nth
nth_some [] j h = absurd (omega arith)
nth_some (s ∷ ss) zero h = refl
nth_some (s ∷ ss) (suc j) h = nth_some ss j (omega arith)

pub nth_none : (ss : List String) (j : ℕ) → length ss ≤ j → nth ss j ≡ none
unfolding nth
nth_none [] j h = refl
nth_none (s ∷ ss) zero h = absurd (omega arith)
nth_none (s ∷ ss) (suc j) h = nth_none ss j (omega arith)

-- the first of some strings that passes has the first number, counted from `base`, that does not miss
pub first-number : (p : ℕ → Bool) (q : List ℕ → Bool) (ss : List String) (base : ℕ) → ((j : ℕ) → j < length ss → p (base + j) ≡ not (q (bytes (get_or ss j ""))))
    → first_of q ss ≡ nth ss (first_not p (length ss) base - base)
unfolding first_of nth first_not
first-number p q [] base f = refl
first-number p q (s ∷ ss) base f =
    go (p base) (q (bytes s)) (ap p (sym (add-zero base)) ∙ f 0 (omega arith))
    (first-number p q ss (suc base) (λ j h. ap p (suc-add base j ∙ sym (add-suc base j)) ∙ f (suc j) (omega arith)))
  where
    r : ℕ
    r = first_not p (length ss) (suc base)

    go : (a b : Bool) → a ≡ not b → first_of q ss ≡ nth ss (r - suc base) → elim b [ true ↦ some s | false ↦ first_of q ss ] ≡ nth (s ∷ ss) (unless a base r - base)
    go true true e g = clash e
    go true false e g = let z : r - base ≡ suc (r - suc base) = omega (arith, not_before p (length ss) (suc base)) in rw z g
    go false true e g = let z : base - base ≡ 0 = omega arith in rw z
    go false false e g = clash (sym e)

-- ---- by its first byte

-- no string begins with a byte that passes
unfoldable pub none_opens : (ℕ → Bool) → List String → Bool
none_opens q [] = true
none_opens q (s ∷ ss) = cond (q (get_or (bytes s) 0 0)) false (none_opens q ss)

-- a word that begins so is none of them
pub skips : (q : ℕ → Bool) (w : List ℕ) (ss rest : List String) → none_opens q ss ≡ true → q (get_or w 0 0) ≡ true → first_of (same w) (ss ++ rest) ≡ first_of (same w) rest
unfolding none_opens first_of
skips q w [] rest e h = refl
skips q w (s ∷ ss) rest e h = go (q (get_or (bytes s) 0 0)) (same w (bytes s)) refl refl (λ f. skips q w ss rest f h) e
  where
    go : (a b : Bool) → q (get_or (bytes s) 0 0) ≡ a → same w (bytes s) ≡ b → (none_opens q ss ≡ true → first_of (same w) (ss ++ rest) ≡ first_of (same w) rest) → cond a false (none_opens q ss) ≡ true
        → elim b [ true ↦ some s | false ↦ first_of (same w) (ss ++ rest) ] ≡ first_of (same w) rest
    go true b f g more e = clash (sym e)
    go false true f g more e = clash (sym h ∙ ap (λ (v : List ℕ). q (get_or v 0 0)) (same_true w (bytes s) g) ∙ f)
    go false false f g more e = more e

-- ---- the first that a text begins with

pub first_passes : (q : List ℕ → Bool) (ss : List String) (g : String) → first_of q ss ≡ some g → q (bytes g) ≡ true
unfolding first_of
first_passes q [] g e = absurd (let z : ◌≡◌ {A = ℕ} 0 1 = cc in omega arith)
first_passes q (s ∷ ss) g e = go (q (bytes s)) refl (first_passes q ss g) e
  where
    go : (b : Bool) → q (bytes s) ≡ b → (first_of q ss ≡ some g → q (bytes g) ≡ true) → elim b [ true ↦ some s | false ↦ first_of q ss ] ≡ some g → q (bytes g) ≡ true
    go true f more e = let same : s ≡ g = cc in ap (λ (x : String). q (bytes x)) (sym same) ∙ f
    go false f more e = more e

-- .. is the first that its own bytes spell
pub first-same : (l : List ℕ) (ss rest : List String) (g : String) → first_of (begins l) ss ≡ some g → take (length (bytes g)) l ≡ bytes g → first_of (same (bytes g)) (ss ++ rest) ≡ some g
unfolding first_of
first-same l [] rest g e t = absurd (let z : ◌≡◌ {A = ℕ} 0 1 = cc in omega arith)
first-same l (s ∷ ss) rest g e t = go (begins l (bytes s)) (same (bytes g) (bytes s)) refl refl (λ f. first-same l ss rest g f t) e
  where
    go : (a b : Bool) → begins l (bytes s) ≡ a → same (bytes g) (bytes s) ≡ b → (first_of (begins l) ss ≡ some g → first_of (same (bytes g)) (ss ++ rest) ≡ some g) → elim a [ true ↦ some s | false ↦ first_of (begins l) ss ] ≡ some g
        → elim b [ true ↦ some s | false ↦ first_of (same (bytes g)) (ss ++ rest) ] ≡ some g
    go true true f h more e = e
    go true false f h more e = let z : s ≡ g = cc in clash (sym (same_self (bytes g)) ∙ ap (λ (x : String). same (bytes g) (bytes x)) (sym z) ∙ h)
    go false true f h more e = clash (sym (begins-take (length (bytes g)) l) ∙ ap (begins l) (t ∙ same_true (bytes g) (bytes s) h) ∙ f)
    go false false f h more e = more e
