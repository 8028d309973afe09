-- The laws of what is written behind the tree.
-- Assumes nothing.
use mathlib.Core.Bool.{Bool, true, false, cond}
use mathlib.Core.Path.{◌≡◌, refl, sym, ◌∙◌, ap, ap₂}
use mathlib.Core.List.{List, [], ◌∷◌}
use Prim.Native.Nat.{ℕ, zero, suc, ◌+◌, ◌-◌, ◌*◌, ◌/◌, ◌%◌, ◌≤◌, ◌<◌}
use native.Mathlib.Decide.{ℕ_discrete, dec_lt}
use native.Mathlib.Omega.{arith}
use lib.Dec.{eqb}
use lib.ListN.{length, get_or, set, take, drop, length-set, length-drop, get_or-eq_default}
use lib.Seq.{get_or-set_same, get_or-set_other, take-set-le, drop-set-add, set_out}
use borrow.Author.Tests.{eqb-true, eq-eqb, ne_eqb}
use Rattle.ll1.proofs.Sets.{clash}
use Rattle.parts.specs.Beside.{tree_bytes, Beside, beside}
use Rattle.frames.specs.Layout.{half_at, place_at, parts_at, levels_at}
use Rattle.frames.specs.Put.{Puts, half_in, frame_in, actual_in, wiped, zero_from, Over}

-- ---- the whole area

size_is : (t : List ℕ) → (beside t).size ≡ length t
unfolding beside
size_is t = refl

pub put-here : (t : List ℕ) (o x : ℕ) → Puts t (set t (16384 + o) x) (set (beside t).names o x)
unfolding beside
put-here t o x =
    record {
      tree = take-set-le 16384 t (16384 + o) x (omega arith);
      behind = rw (length-set t (16384 + o) x, drop-set-add 16384 t o x) refl;
    }

pub put-past : (t : List ℕ) (o x : ℕ) → length t ≤ 16384 + o → Puts t t (set (beside t).names o x)
unfolding beside
put-past t o x h =
    record {
      tree = refl;
      behind = ap (λ (z : List ℕ). record { size = length t; names = z }) (sym (set_out (drop 16384 t) o x (omega (arith, length-drop 16384 t))));
    }

pub puts_none : (t : List ℕ) → Puts t t (beside t).names
unfolding beside
puts_none t = record { tree = refl; behind = refl }

-- one after the other
pub puts_on : {t u v y : List ℕ} (f : List ℕ → List ℕ) → Puts t u y → Puts u v (f (beside u).names) → Puts t v (f y)
puts_on {t} {u} {v} {y} f p q =
    let names : (beside u).names ≡ y = ap (λ (b : Beside). b.names) p.behind in
    let size : length u ≡ length t = sym (size_is u) ∙ ap (λ (b : Beside). b.size) p.behind in
    record { tree = q.tree ∙ p.tree; behind = q.behind ∙ ap₂ (λ (n : ℕ) (z : List ℕ). record { size = n; names = z }) size (ap f names) }

pub puts_size : {t u y : List ℕ} → Puts t u y → length u ≡ length t
puts_size {t} {u} p = sym (size_is u) ∙ ap (λ (b : Beside). b.size) p.behind

pub puts_names : {t u y : List ℕ} → Puts t u y → (beside u).names ≡ y
puts_names p = ap (λ (b : Beside). b.names) p.behind

-- ---- zeros

-- what is known where byte i is to be made zero
abbrev pub Wiping : ℕ → ℕ → List ℕ → List ℕ → ℕ → Type 0
Wiping from to t₀ t i = (take tree_bytes t ≡ take tree_bytes t₀) × (length t ≡ length t₀) × (wiped (beside t).names i (to - i) ≡ wiped (beside t₀).names from (to - from))

pub wiping_on : (from to : ℕ) (t₀ t u : List ℕ) (i : ℕ) → i < to → Wiping from to t₀ t i → Puts t u (set (beside t).names i 0) → Wiping from to t₀ u (i + 1)
unfolding wiped
wiping_on from to t₀ t u i h (a, b, e) p = (p.tree ∙ a, puts_size p ∙ b, rw (puts_names p) (go (to - i) (to - (i + 1)) (omega arith) e))
  where
    go : (n m : ℕ) → n ≡ suc m → wiped (beside t).names i n ≡ wiped (beside t₀).names from (to - from) → wiped (set (beside t).names i 0) (i + 1) m ≡ wiped (beside t₀).names from (to - from)
    go zero m h e = absurd (omega arith)
    go (suc n) m h e = let g : m ≡ n = omega arith in rw g e

pub wiping_over : (from to : ℕ) (t₀ t : List ℕ) (i : ℕ) → to ≤ i → Wiping from to t₀ t i → Puts t₀ t (wiped (beside t₀).names from (to - from))
unfolding wiped beside
wiping_over from to t₀ t i h (a, b, e) = record { tree = a; behind = ap₂ (λ (n : ℕ) (z : List ℕ). record { size = n; names = z }) b (go (to - i) (omega arith) e) }
  where
    go : (n : ℕ) → n ≡ 0 → wiped (beside t).names i n ≡ wiped (beside t₀).names from (to - from) → drop 16384 t ≡ wiped (beside t₀).names from (to - from)
    go zero h e = e
    go (suc n) h e = absurd (omega arith)

module _ (z : List ℕ) (to i : ℕ) (o : Bool) where
  pub zero_on : i < to → get_or z i 0 ≡ 0 → zero_from z i (to - i) ≡ o → zero_from z (i + 1) (to - (i + 1)) ≡ o
  unfolding zero_from
  zero_on h e q = go (to - i) (to - (i + 1)) (omega arith) q
    where
      go : (n m : ℕ) → n ≡ suc m → zero_from z i n ≡ o → zero_from z (i + 1) m ≡ o
      go zero m h q = absurd (omega arith)
      go (suc n) m h q = let g : m ≡ n = omega arith in rw g (rw (eq-eqb (get_or z i 0) 0 e) at q)

  pub zero_not : i < to → ¬ (get_or z i 0 ≡ 0) → zero_from z i (to - i) ≡ o → false ≡ o
  unfolding zero_from
  zero_not h e q = go (to - i) (omega arith) q
    where
      go : (n : ℕ) → 0 < n → zero_from z i n ≡ o → false ≡ o
      go zero h q = absurd (omega arith)
      go (suc n) h q = rw (ne_eqb (get_or z i 0) 0 e) at q

  pub zero_over : to ≤ i → zero_from z i (to - i) ≡ o → true ≡ o
  unfolding zero_from
  zero_over h q = go (to - i) (omega arith) q
    where
      go : (n : ℕ) → n ≡ 0 → zero_from z i n ≡ o → true ≡ o
      go zero h q = q
      go (suc n) h q = absurd (omega arith)

pub zeros_are : (z : List ℕ) (n from i : ℕ) → zero_from z from n ≡ true → from ≤ i → i < from + n → get_or z i 0 ≡ 0
unfolding zero_from
zeros_are z zero from i e h g = absurd (omega arith)
zeros_are z (suc n) from i e h g = go (eqb (get_or z from 0) 0) refl (zeros_are z n (from + 1) i) e (ℕ_discrete i from)
  where
    go : (b : Bool) → eqb (get_or z from 0) 0 ≡ b → (zero_from z (from + 1) n ≡ true → from + 1 ≤ i → i < from + 1 + n → get_or z i 0 ≡ 0) → cond b (zero_from z (from + 1) n) false ≡ true → Dec (i ≡ from) → get_or z i 0 ≡ 0
    go true f more e (yes q) = rw q (eqb-true (get_or z from 0) 0 f)
    go true f more e (no q) = more e (omega (arith, q)) (omega arith)
    go false f more e d = clash (sym e)

pub zeros_clean : (z : List ℕ) (n from : ℕ) → ((i : ℕ) → from ≤ i → i < from + n → get_or z i 0 ≡ 0) → zero_from z from n ≡ true
unfolding zero_from
zeros_clean z zero from h = refl
zeros_clean z (suc n) from h = rw (eq-eqb (get_or z from 0) 0 (h from (omega arith) (omega arith))) (zeros_clean z n (from + 1) (λ i a b. h i (omega arith) (omega arith)))

-- ---- what is made zero is as it was

wiped-size : (n : ℕ) (z : List ℕ) (from : ℕ) → length (wiped z from n) ≡ length z
unfolding wiped
wiped-size zero z from = refl
wiped-size (suc n) z from = wiped-size n (set z from 0) (from + 1) ∙ length-set z from 0

wiped-other : (n : ℕ) (z : List ℕ) (from i : ℕ) → ¬ (from ≤ i × i < from + n) → get_or (wiped z from n) i 0 ≡ get_or z i 0
unfolding wiped
wiped-other zero z from i h = refl
wiped-other (suc n) z from i h =
    wiped-other n (set z from 0) (from + 1) i (λ g. h (omega (arith, g.0), omega (arith, g.1))) ∙ get_or-set_other z from i 0 0 (λ e. h (omega arith, omega arith))

wiped-here : (n : ℕ) (z : List ℕ) (from i : ℕ) → from ≤ i → i < from + n → get_or (wiped z from n) i 0 ≡ 0
unfolding wiped
wiped-here zero z from i h g = absurd (omega arith)
wiped-here (suc n) z from i h g = go (ℕ_discrete i from) (wiped-here n (set z from 0) (from + 1) i)
  where
    zeroed : Dec (from < length z) → get_or (set z from 0) from 0 ≡ 0
    zeroed (yes q) = get_or-set_same z from 0 0 q
    zeroed (no q) = get_or-eq_default (set z from 0) 0 (omega (arith, q, length-set z from 0))

    go : Dec (i ≡ from) → (from + 1 ≤ i → i < from + 1 + n → get_or (wiped (set z from 0) (from + 1) n) i 0 ≡ 0) → get_or (wiped (set z from 0) (from + 1) n) i 0 ≡ 0
    go (yes e) more = wiped-other n (set z from 0) (from + 1) i (λ g. absurd (omega (arith, g.0))) ∙ ap (λ (j : ℕ). get_or (set z from 0) j 0) e ∙ zeroed (dec_lt from (length z))
    go (no e) more = more (omega (arith, e)) (omega arith)

same_lists : (a b : List ℕ) → length a ≡ length b → ((i : ℕ) → get_or a i 0 ≡ get_or b i 0) → a ≡ b
same_lists [] [] h e = refl
same_lists [] (y ∷ b) h e = absurd (omega arith)
same_lists (x ∷ a) [] h e = absurd (omega arith)
same_lists (x ∷ a) (y ∷ b) h e = ap₂ ◌∷◌ (e 0) (same_lists a b (omega arith) (λ i. e (suc i)))

pub wiped-back : (z y : List ℕ) (from to : ℕ) → Over z y from to → wiped y from (to - from) ≡ z
wiped-back z y from to o = same_lists (wiped y from (to - from)) z (wiped-size (to - from) y from ∙ o.size) (λ i. go i (dec_lt i from) (dec_lt i to))
  where
    go : (i : ℕ) → Dec (i < from) → Dec (i < to) → get_or (wiped y from (to - from)) i 0 ≡ get_or z i 0
    go i (yes h) d = wiped-other (to - from) y from i (λ g. absurd (omega (arith, g.0))) ∙ o.low i h
    go i (no h) (yes g) = wiped-here (to - from) y from i (omega arith) (omega arith) ∙ sym (o.zeros i (omega arith) g)
    go i (no h) (no g) = wiped-other (to - from) y from i (λ k. absurd (omega (arith, k.1))) ∙ o.high i (omega arith)

-- ---- a frame

set_other : (z : List ℕ) (o x i : ℕ) → ¬ (i ≡ o) → get_or (set z o x) i 0 ≡ get_or z i 0
set_other z o x i h = get_or-set_other z o i x 0 h

half_size : (z : List ℕ) (o x : ℕ) → length (half_in z o x) ≡ length z
unfolding half_in
half_size z o x = length-set (set z o (x % 256)) (o + 1) (x / 256) ∙ length-set z o (x % 256)

half_other : (z : List ℕ) (o x i : ℕ) → ¬ (i ≡ o) → ¬ (i ≡ o + 1) → get_or (half_in z o x) i 0 ≡ get_or z i 0
unfolding half_in
half_other z o x i a b = set_other (set z o (x % 256)) (o + 1) (x / 256) i b ∙ set_other z o (x % 256) i a

half_here : (z : List ℕ) (o x : ℕ) → o + 1 < length z → half_at (half_in z o x) o ≡ x
unfolding half_in half_at
half_here z o x h =
    let high : get_or (set (set z o (x % 256)) (o + 1) (x / 256)) (o + 1) 0 ≡ x / 256 = get_or-set_same (set z o (x % 256)) (o + 1) (x / 256) 0 (omega (arith, length-set z o (x % 256))) in
    let low : get_or (set (set z o (x % 256)) (o + 1) (x / 256)) o 0 ≡ x % 256 = set_other (set z o (x % 256)) (o + 1) (x / 256) o (λ e. absurd (omega arith)) ∙ get_or-set_same z o (x % 256) 0 (omega arith) in
    rw (high, low) (omega arith)

half_same : (z y : List ℕ) (o : ℕ) → get_or y o 0 ≡ get_or z o 0 → get_or y (o + 1) 0 ≡ get_or z (o + 1) 0 → half_at y o ≡ half_at z o
unfolding half_at
half_same z y o a b = rw (a, b) refl

module _ (z : List ℕ) (top caller p : ℕ) (h : top + 4 ≤ length z) where
  pub frame_caller : half_at (frame_in z top caller p) top ≡ caller
  unfolding frame_in
  frame_caller =
      half_same (half_in z top caller) (half_in (half_in z top caller) (top + 2) p) top (half_other (half_in z top caller) (top + 2) p top (λ e. absurd (omega arith)) (λ e. absurd (omega arith)))
      (half_other (half_in z top caller) (top + 2) p (top + 1) (λ e. absurd (omega arith)) (λ e. absurd (omega arith)))
      ∙ half_here z top caller (omega arith)

  pub frame_procedure : half_at (frame_in z top caller p) (top + 2) ≡ p
  unfolding frame_in
  frame_procedure = half_here (half_in z top caller) (top + 2) p (omega (arith, half_size z top caller))

pub frame_size : (z : List ℕ) (top caller p : ℕ) → length (frame_in z top caller p) ≡ length z
unfolding frame_in
frame_size z top caller p = half_size (half_in z top caller) (top + 2) p ∙ half_size z top caller

pub frame_other : (z : List ℕ) (top caller p i : ℕ) → ¬ (top ≤ i × i < top + 4) → get_or (frame_in z top caller p) i 0 ≡ get_or z i 0
unfolding frame_in
frame_other z top caller p i h =
    half_other (half_in z top caller) (top + 2) p i (λ e. h (omega arith, omega arith)) (λ e. h (omega arith, omega arith))
    ∙ half_other z top caller i (λ e. h (omega arith, omega arith)) (λ e. h (omega arith, omega arith))

-- ---- an actual

module _ (z : List ℕ) (o place parts levels : ℕ) where
  abbrev one : List ℕ
  one = set z o (place % 256)

  abbrev two : List ℕ
  two = set one (o + 1) (place / 256 % 32 + parts % 8 * 32)

  abbrev three : List ℕ
  three = set two (o + 2) (parts / 8 % 256)

  pub actual-size : length (actual_in z o place parts levels) ≡ length z
  unfolding actual_in
  actual-size = length-set three (o + 3) levels ∙ length-set two (o + 2) _ ∙ length-set one (o + 1) _ ∙ length-set z o _

  pub actual-other : (i : ℕ) → ¬ (o ≤ i × i < o + 4) → get_or (actual_in z o place parts levels) i 0 ≡ get_or z i 0
  unfolding actual_in
  actual-other i h =
      set_other three (o + 3) levels i (λ e. h (omega arith, omega arith)) ∙ set_other two (o + 2) (parts / 8 % 256) i (λ e. h (omega arith, omega arith))
      ∙ set_other one (o + 1) (place / 256 % 32 + parts % 8 * 32) i (λ e. h (omega arith, omega arith)) ∙ set_other z o (place % 256) i (λ e. h (omega arith, omega arith))

  module _ (h : o + 4 ≤ length z) where
    at_first : get_or (actual_in z o place parts levels) o 0 ≡ place % 256
    unfolding actual_in
    at_first =
        set_other three (o + 3) levels o (λ e. absurd (omega arith)) ∙ set_other two (o + 2) (parts / 8 % 256) o (λ e. absurd (omega arith))
        ∙ set_other one (o + 1) (place / 256 % 32 + parts % 8 * 32) o (λ e. absurd (omega arith)) ∙ get_or-set_same z o (place % 256) 0 (omega arith)

    at_second : get_or (actual_in z o place parts levels) (o + 1) 0 ≡ place / 256 % 32 + parts % 8 * 32
    unfolding actual_in
    at_second =
        set_other three (o + 3) levels (o + 1) (λ e. absurd (omega arith)) ∙ set_other two (o + 2) (parts / 8 % 256) (o + 1) (λ e. absurd (omega arith))
        ∙ get_or-set_same one (o + 1) (place / 256 % 32 + parts % 8 * 32) 0 (omega (arith, length-set z o (place % 256)))

    at_third : get_or (actual_in z o place parts levels) (o + 2) 0 ≡ parts / 8 % 256
    unfolding actual_in
    at_third =
        set_other three (o + 3) levels (o + 2) (λ e. absurd (omega arith))
        ∙ get_or-set_same two (o + 2) (parts / 8 % 256) 0 (omega (arith, length-set one (o + 1) (place / 256 % 32 + parts % 8 * 32), length-set z o (place % 256)))

    pub actual-levels : levels_at (actual_in z o place parts levels) o ≡ levels
    unfolding levels_at actual_in
    actual-levels =
        get_or-set_same three (o + 3) levels 0
        (omega (arith, length-set two (o + 2) (parts / 8 % 256), length-set one (o + 1) (place / 256 % 32 + parts % 8 * 32), length-set z o (place % 256)))

    pub actual-place : place < 8192 → place_at (actual_in z o place parts levels) o ≡ place
    unfolding place_at
    actual-place g = rw (at_first, at_second) (omega arith)

    pub actual-parts : parts < 2048 → parts_at (actual_in z o place parts levels) o ≡ parts
    unfolding parts_at
    actual-parts g = rw (at_second, at_third) (omega arith)

-- ---- what lies outside of a frame is as it was

pub over_start : (z : List ℕ) (from to : ℕ) → zero_from z from (to - from) ≡ true → Over z z from to
over_start z from to e = record { size = refl; low = λ i h. refl; high = λ i h. refl; zeros = λ i h g. zeros_are z (to - from) from i e h (omega arith) }

pub over_actual : (z y : List ℕ) (from to o place parts levels : ℕ) → Over z y from to → from ≤ o → o + 4 ≤ to → Over z (actual_in y o place parts levels) from to
over_actual z y from to o place parts levels x a b =
    record {
      size = actual-size y o place parts levels ∙ x.size;
      low = λ i h. actual-other y o place parts levels i (λ g. absurd (omega (arith, g.0))) ∙ x.low i h;
      high = λ i h. actual-other y o place parts levels i (λ g. absurd (omega (arith, g.1))) ∙ x.high i h;
      zeros = x.zeros;
    }

pub over_frame : (z y : List ℕ) (to top caller p : ℕ) → Over z y top to → top + 4 ≤ to → Over z (frame_in y top caller p) top to
over_frame z y to top caller p x b =
    record {
      size = frame_size y top caller p ∙ x.size;
      low = λ i h. frame_other y top caller p i (λ g. absurd (omega (arith, g.0))) ∙ x.low i h;
      high = λ i h. frame_other y top caller p i (λ g. absurd (omega (arith, g.1))) ∙ x.high i h;
      zeros = x.zeros;
    }
