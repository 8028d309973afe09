-- What a count comes to behind so many statements and parts, so many levels deep and with these places too large.
-- Assumes nothing.
use mathlib.Core.Path.{◌≡◌, refl, sym, ap, ap₂, ◌∙◌}
use mathlib.Core.Bool.{Bool, true, false, cond}
use mathlib.Core.List.{List, [], ◌∷◌, ◌++◌}
use Prim.Native.Nat.{ℕ, zero, suc, ◌+◌, max}
use native.Mathlib.Omega.{arith}
use borrow.Author.Tests.{ltb-true, ltb-false, leb-true, leb-false, le-leb, lt-leb}
use lib.Dec.{ltb, leb}
use Rattle.meaning.specs.Names.{when}
use Rattle.meaning.specs.Kinds.{both}
use Rattle.meaning.specs.Sizes.{most_statements, most_parts}
use Rattle.meaning.specs.Levels.{most_levels}
use Rattle.own_law.specs.Own.{Own, past, begun, parted, closed, begun_often, opened, if_large}

abbrev pub is_none : List ℕ → Bool
is_none [] = true
is_none (p ∷ ps) = false

-- ---- truths

medial : (a b x y : Bool) → both (both a b) (both x y) ≡ both (both a x) (both b y)
medial true true x y = refl
medial true false true y = refl
medial true false false y = refl
medial false b x y = refl

pub none_both : (l m : List ℕ) → is_none (l ++ m) ≡ both (is_none l) (is_none m)
none_both [] m = refl
none_both (p ∷ l) m = refl

-- a sum is small if its beginning is and it is itself
sum-small : (n s t most : ℕ) → leb (n + (s + t)) most ≡ both (leb (n + s) most) (leb (n + s + t) most)
sum-small n s t most = by (leb (n + s) most) refl
  where
    by : (b : Bool) → leb (n + s) most ≡ b → leb (n + (s + t)) most ≡ both b (leb (n + s + t) most)
    by true e = ap (λ (m : ℕ). leb m most) (omega arith)
    by false e = lt-leb (n + (s + t)) most (omega (arith, leb-false (n + s) most e))

most-small : (n s t most : ℕ) → leb (n + max s t) most ≡ both (leb (n + s) most) (leb (n + t) most)
most-small n s t most = by (leb (n + s) most) (leb (n + t) most) refl refl
  where
    by : (b c : Bool) → leb (n + s) most ≡ b → leb (n + t) most ≡ c → leb (n + max s t) most ≡ both b c
    by true true e f = le-leb (n + max s t) most (omega (arith, leb-true (n + s) most e, leb-true (n + t) most f))
    by true false e f = lt-leb (n + max s t) most (omega (arith, leb-false (n + t) most f))
    by false c e f = lt-leb (n + max s t) most (omega (arith, leb-false (n + s) most e))

module _ (every : Bool) where
  -- Z7 to Z9, where they are asked for
  abbrev pub small : ℕ → List ℕ → Bool
  small n l = cond every (both (leb n most_levels) (is_none l)) true

  -- within every size that is asked for
  abbrev pub fits : Own → ℕ → ℕ → ℕ → List ℕ → Bool
  fits o s p d l = both (both (leb (o.statements + s) most_statements) (leb (o.parts + p) most_parts)) (small (o.levels + d) l)

  unfoldable pub bears : Own → ℕ → ℕ → ℕ → List ℕ → Own
  bears o s p d l = cond o.over o (cond (fits o s p d l) (record { statements = o.statements + s; parts = o.parts + p; levels = o.levels; over = false }) past)

  -- a count that has passed nothing yet, or is over
  abbrev pub Sound : Own → Type 0
  Sound o = bears o 0 0 0 [] ≡ o

-- ---- one behind the other

abbrev pub made : ℕ → ℕ → ℕ → Bool → Own
made a b c f = record { statements = a; parts = b; levels = c; over = f }

small-both : (v : Bool) (n d e : ℕ) (l m : List ℕ) → small v (n + max d e) (l ++ m) ≡ both (small v (n + d) l) (small v (n + e) m)
small-both true n d e l m = ap₂ both (most-small n d e most_levels) (none_both l m) ∙ medial (leb (n + d) most_levels) (leb (n + e) most_levels) (is_none l) (is_none m)
small-both false n d e l m = refl

fits_both : (v : Bool) (a b c s p d : ℕ) (l : List ℕ) (t q e : ℕ) (m : List ℕ)
    → fits v (made a b c false) (s + t) (p + q) (max d e) (l ++ m) ≡ both (fits v (made a b c false) s p d l) (fits v (made (a + s) (b + p) c false) t q e m)
fits_both v a b c s p d l t q e m =
    ap₂ both (ap₂ both (sum-small a s t most_statements) (sum-small b p q most_parts) ∙ medial (leb (a + s) most_statements) (leb (a + s + t) most_statements) (leb (b + p) most_parts) (leb (b + p + q) most_parts)) (small-both v c d e l m)
    ∙ medial (both (leb (a + s) most_statements) (leb (b + p) most_parts)) (both (leb (a + s + t) most_statements) (leb (b + p + q) most_parts)) (small v (c + d) l) (small v (c + e) m)

both-made : (v : Bool) (a b c : ℕ) (f : Bool) (s p d : ℕ) (l : List ℕ) (t q e : ℕ) (m : List ℕ)
    → bears v (bears v (made a b c f) s p d l) t q e m ≡ bears v (made a b c f) (s + t) (p + q) (max d e) (l ++ m)
unfolding bears
both-made v a b c true s p d l t q e m = refl
both-made v a b c false s p d l t q e m =
    by (fits v (made a b c false) s p d l) ∙ ap (λ (k : Bool). cond k (made (a + (s + t)) (b + (p + q)) c false) past) (sym (fits_both v a b c s p d l t q e m))
  where
    by : (k : Bool) → bears v (cond k (made (a + s) (b + p) c false) past) t q e m ≡ cond (both k (fits v (made (a + s) (b + p) c false) t q e m)) (made (a + (s + t)) (b + (p + q)) c false) past
    by true = ap₂ (λ (x y : ℕ). cond (fits v (made (a + s) (b + p) c false) t q e m) (made x y c false) past) (omega arith) (omega arith)
    by false = refl

both_borne : (v : Bool) (o : Own) (s p d : ℕ) (l : List ℕ) (t q e : ℕ) (m : List ℕ) → bears v (bears v o s p d l) t q e m ≡ bears v o (s + t) (p + q) (max d e) (l ++ m)
both_borne v o s p d l t q e m = both-made v o.statements o.parts o.levels o.over s p d l t q e m

pub none-behind : (l : List ℕ) → l ++ [] ≡ l
none-behind [] = refl
none-behind (p ∷ l) = ap (λ r. p ∷ r) (none-behind l)

same : (v : Bool) (o : Own) {s t p q d e : ℕ} {l m : List ℕ} → s ≡ t → p ≡ q → d ≡ e → l ≡ m → bears v o s p d l ≡ bears v o t q e m
same v o h i j k = cc

borne_sound : (v : Bool) (o : Own) (s p d : ℕ) (l : List ℕ) → Sound v (bears v o s p d l)
borne_sound v o s p d l = both_borne v o s p d l 0 0 0 [] ∙ same v o (omega arith) (omega arith) (omega arith) (none-behind l)

-- ---- steps

right-true : (a b : Bool) → b ≡ true → both a b ≡ a
right-true true b e = e
right-true false b e = refl

both_true : (a b : Bool) → both a b ≡ true → (a ≡ true) × (b ≡ true)
both_true true b e = (refl, e)
both_true false b e = absurd (let z : ◌≡◌ {A = ℕ} 0 1 = cc in omega arith)

next_small : (n most : ℕ) → leb (n + 1) most ≡ ltb n most
next_small n most = by (ltb n most) refl
  where
    by : (b : Bool) → ltb n most ≡ b → leb (n + 1) most ≡ b
    by true e = le-leb (n + 1) most (omega (arith, ltb-true n most e))
    by false e = lt-leb (n + 1) most (omega (arith, ltb-false n most e))

not_past : (o : Own) (a b c : ℕ) (k : Bool) → cond k o past ≡ made a b c false → k ≡ true
not_past o a b c true e = refl
not_past o a b c false e = sym (ap (λ (r : Own). r.over) e)

-- what a sound count is within
record Inside (v : Bool) (a b c : ℕ) : Type 0 where
  statements : leb (a + 0) most_statements ≡ true
  parts : leb (b + 0) most_parts ≡ true
  levels : small v (c + 0) [] ≡ true

inside : (v : Bool) (a b c : ℕ) → Sound v (made a b c false) → Inside v a b c
unfolding bears
inside v a b c h =
    let (x, y) = both_true (both (leb (a + 0) most_statements) (leb (b + 0) most_parts)) (small v (c + 0) []) (not_past (made (a + 0) (b + 0) c false) a b c (fits v (made a b c false) 0 0 0 []) h) in
    let (p, q) = both_true (leb (a + 0) most_statements) (leb (b + 0) most_parts) x in
    record { statements = p; parts = q; levels = y }

-- what a piece of a walk adds to every sound count
pub record Adds (v : Bool) (f : Own → Own) (s p d : ℕ) (l : List ℕ) : Type 0 where
  pub to : (o : Own) → Sound v o → f o ≡ bears v o s p d l

begun-made : (v : Bool) (a b c : ℕ) (f : Bool) → Sound v (made a b c f) → begun (made a b c f) ≡ bears v (made a b c f) 1 0 0 []
unfolding begun bears
begun-made v a b c true h = refl
begun-made v a b c false h =
    let i = inside v a b c h in
    let e : fits v (made a b c false) 1 0 0 [] ≡ ltb a most_statements = right-true (both (leb (a + 1) most_statements) (leb (b + 0) most_parts)) (small v (c + 0) []) i.levels ∙ right-true (leb (a + 1) most_statements) (leb (b + 0) most_parts) i.parts ∙ next_small a most_statements in
    ap₂ (λ (k : Bool) (n : ℕ). cond k (made (a + 1) n c false) past) (sym e) (omega arith)

pub statement : (v : Bool) → Adds v begun 1 0 0 []
statement v = record { to = λ o h. begun-made v o.statements o.parts o.levels o.over h }

parted-made : (v : Bool) (a b c : ℕ) (f : Bool) → Sound v (made a b c f) → parted (made a b c f) ≡ bears v (made a b c f) 0 1 0 []
unfolding parted bears
parted-made v a b c true h = refl
parted-made v a b c false h =
    let i = inside v a b c h in
    let e : fits v (made a b c false) 0 1 0 [] ≡ ltb b most_parts = right-true (both (leb (a + 0) most_statements) (leb (b + 1) most_parts)) (small v (c + 0) []) i.levels ∙ ap (λ (k : Bool). both k (leb (b + 1) most_parts)) i.statements ∙ next_small b most_parts in
    ap₂ (λ (k : Bool) (n : ℕ). cond k (made n (b + 1) c false) past) (sym e) (omega arith)

pub part : (v : Bool) → Adds v parted 0 1 0 []
part v = record { to = λ o h. parted-made v o.statements o.parts o.levels o.over h }

right-false : (a b : Bool) → b ≡ false → both a b ≡ false
right-false true b e = e
right-false false b e = refl

large-made : (v : Bool) (big : Bool) (q a b c : ℕ) (f : Bool) → Sound v (made a b c f) → if_large v big (made a b c f) ≡ bears v (made a b c f) 0 0 0 (when big q)
unfolding if_large bears
large-made v big q a b c true h = refl
large-made true true q a b c false h =
    ap (λ (k : Bool). cond k (made (a + 0) (b + 0) c false) past)
    (sym (right-false (both (leb (a + 0) most_statements) (leb (b + 0) most_parts)) (small true (c + 0) (q ∷ [])) (right-false (leb (c + 0) most_levels) false refl)))
large-made true false q a b c false h = sym h
large-made false true q a b c false h = sym h
large-made false false q a b c false h = sym h

pub large : (v big : Bool) (q : ℕ) → Adds v (if_large v big) 0 0 0 (when big q)
large v big q = record { to = λ o h. large-made v big q o.statements o.parts o.levels o.over h }

pub stays : (v : Bool) → Adds v (λ o. o) 0 0 0 []
stays v = record { to = λ o h. sym h }

module _ {v : Bool} {f : Own → Own} {s p d : ℕ} {l : List ℕ} (adds : Adds v f s p d l) where
  pub added_sound : (o : Own) → Sound v o → Sound v (f o)
  added_sound o h = ap (λ (r : Own). bears v r 0 0 0 []) (adds.to o h) ∙ borne_sound v o s p d l ∙ sym (adds.to o h)

  pub behind : {g : Own → Own} {t q e : ℕ} {m : List ℕ} → Adds v g t q e m → Adds v (λ o. g (f o)) (s + t) (p + q) (max d e) (l ++ m)
  behind {g} {t} {q} {e} {m} then = record { to = λ o h. then.to (f o) (added_sound o h) ∙ ap (λ (r : Own). bears v r t q e m) (adds.to o h) ∙ both_borne v o s p d l t q e m }

  pub alike : {t q e : ℕ} {m : List ℕ} → s ≡ t → p ≡ q → d ≡ e → l ≡ m → Adds v f t q e m
  alike h i j k = record { to = λ o z. adds.to o z ∙ same v o h i j k }

  -- whether something is too large counts, not where
  pub as_large : {m : List ℕ} → is_none l ≡ is_none m → Adds v f s p d m
  unfolding bears
  as_large {m} h =
      record {
        to = λ o z.
            adds.to o z
            ∙ ap (λ (k : Bool). cond o.over o (cond (both (both (leb (o.statements + s) most_statements) (leb (o.parts + p) most_parts)) (cond v (both (leb (o.levels + d) most_levels) k) true)) (made (o.statements + s) (o.parts + p) o.levels false) past)) h;
      }

-- ---- levels

deeper : (v : Bool) (ab : Bool) (c d : ℕ) (l : List ℕ) → both (cond v (ltb c most_levels) true) (both ab (small v (c + 1 + d) l)) ≡ both ab (small v (c + suc d) l)
deeper false ab c d l = refl
deeper true ab c d l = by (ltb c most_levels) refl
  where
    by : (k : Bool) → ltb c most_levels ≡ k → both k (both ab (small true (c + 1 + d) l)) ≡ both ab (small true (c + suc d) l)
    by true e = let same : c + 1 + d ≡ c + suc d = omega arith in ap (λ (n : ℕ). both ab (small true n l)) same
    by false e = sym (right-false ab (small true (c + suc d) l) (ap (λ (k : Bool). both k (is_none l)) (lt-leb (c + suc d) most_levels (omega (arith, ltb-false c most_levels e)))))

level-made : (v : Bool) (a b c : ℕ) (f : Bool) (s p d : ℕ) (l : List ℕ) → closed (bears v (opened v (made a b c f)) s p d l) ≡ bears v (made a b c f) s p (suc d) l
unfolding closed opened bears
level-made v a b c true s p d l = refl
level-made v a b c false s p d l =
    by (cond v (ltb c most_levels) true)
    ∙ ap (λ (k : Bool). cond k (made (a + s) (b + p) c false) past) (deeper v (both (leb (a + s) most_statements) (leb (b + p) most_parts)) c d l)
  where
    shut : (k : Bool) → closed (cond k (made (a + s) (b + p) (c + 1) false) past) ≡ cond k (made (a + s) (b + p) c false) past
    shut true = ap (λ (n : ℕ). made (a + s) (b + p) n false) (omega arith)
    shut false = refl

    by : (k : Bool) → closed (bears v (cond k (made a b (c + 1) false) past) s p d l) ≡ cond (both k (fits v (made a b (c + 1) false) s p d l)) (made (a + s) (b + p) c false) past
    by true = shut (fits v (made a b (c + 1) false) s p d l)
    by false = refl

open_sound : (v : Bool) (a b c : ℕ) (f : Bool) → Sound v (made a b c f) → Sound v (opened v (made a b c f))
unfolding opened bears
open_sound v a b c true h = refl
open_sound v a b c false h = by v (inside v a b c h).levels (inside v a b c h)
  where
    keeps : (w : Bool) (n : ℕ) → Inside v a b c → small w (n + 0) [] ≡ true → bears w (made a b n false) 0 0 0 [] ≡ made a b n false
    keeps w n i e =
        ap (λ (k : Bool). cond k (made (a + 0) (b + 0) n false) past) (ap₂ both (ap₂ both i.statements i.parts) e)
        ∙ ap₂ (λ (x y : ℕ). made x y n false) (omega arith) (omega arith)

    deep : (k : Bool) → ltb c most_levels ≡ k → Inside v a b c → Sound true (cond k (made a b (c + 1) false) past)
    deep true e i = keeps true (c + 1) i (ap (λ (k : Bool). both k true) (le-leb (c + 1 + 0) most_levels (omega (arith, ltb-true c most_levels e))))
    deep false e i = refl

    by : (w : Bool) → small w (c + 0) [] ≡ true → Inside v a b c → Sound w (cond (cond w (ltb c most_levels) true) (made a b (c + 1) false) past)
    by true e i = deep (ltb c most_levels) refl i
    by false e i = keeps false (c + 1) i refl

pub level : {v : Bool} {f : Own → Own} {s p d : ℕ} {l : List ℕ} → Adds v f s p d l → Adds v (λ o. closed (f (opened v o))) s p (suc d) l
level {v} {f} {s} {p} {d} {l} adds =
    record {
      to = λ o h.
          ap closed (adds.to (opened v o) (open_sound v o.statements o.parts o.levels o.over h))
          ∙ level-made v o.statements o.parts o.levels o.over s p d l;
    }

pub often : (v : Bool) (k : ℕ) → Adds v (begun_often k) k 0 0 []
unfolding begun_often
often v zero = stays v
often v (suc k) = alike (behind (statement v) (often v k)) (omega arith) refl refl refl
