-- Each kind has one number.
-- Assumes nothing.
use mathlib.Core.Bool.{Bool, true, false, ◌&&◌}
use mathlib.Core.Path.{◌≡◌, refl, sym, ◌∙◌, ap}
use mathlib.Core.List.{List, [], ◌∷◌, ◌++◌}
use Prim.Native.Nat.{ℕ, zero, suc, ◌+◌, ◌≤◌, ◌<◌}
use Prim.Native.String.{String}
use native.Mathlib.Nat.{add-zero, zero-add}
use native.Mathlib.Decide.{dec_lt}
use native.Mathlib.Omega.{arith}
use lib.Dec.{eqb}
use lib.ListN.{length, get_or, get_or-eq_default}
use lib.Text.{eqt}
use borrow.Author.Tests.{eqb-true}
use Rattle.ll1.proofs.Sets.{and_left, and_right}
use Rattle.language.specs.Words.{Kind, name, number, the, signs, reserved}
use Rattle.language.specs.Numbers.{no_kind, all_kinds, kind_at, used_kinds}

-- where a spelling stands in a list, counted from i; 0 where it does not
unfoldable position : String → ℕ → List String → ℕ
position s i [] = 0
position s i (t ∷ ts) = elim (eqt s t) [ true ↦ i | false ↦ position s (suc i) ts ]

unfoldable number_of : Kind → ℕ
unfolding signs reserved position
number_of name = 1
number_of number = 2
number_of (the s) = position s 3 (signs ++ reserved)

numbered : List Kind → ℕ → Bool
numbered [] i = true
numbered (k ∷ ks) i = eqb (number_of k) i && numbered ks (suc i)

all-numbered : numbered all_kinds 0 ≡ true
unfolding numbered all_kinds number_of
all-numbered = refl

how-many : length all_kinds ≡ used_kinds
unfolding all_kinds
how-many = refl

no_number : number_of no_kind ≡ 0
unfolding number_of
no_number = refl

numbered_at : (ks : List Kind) (i : ℕ) → numbered ks i ≡ true → (n : ℕ) → n < length ks → number_of (get_or ks n no_kind) ≡ i + n
unfolding numbered
numbered_at [] i e n h = absurd (omega arith)
numbered_at (k ∷ ks) i e zero h = eqb-true (number_of k) i (and_left (eqb (number_of k) i) (numbered ks (suc i)) e) ∙ sym (add-zero i)
numbered_at (k ∷ ks) i e (suc n) h = numbered_at ks (suc i) (and_right (eqb (number_of k) i) (numbered ks (suc i)) e) n (omega arith) ∙ omega arith

number-low : (n : ℕ) → n < used_kinds → number_of (kind_at n) ≡ n
unfolding kind_at
number-low n h = numbered_at all_kinds 0 all-numbered n (rw how-many h) ∙ zero-add n

pub kind-high : (n : ℕ) → used_kinds ≤ n → kind_at n ≡ no_kind
unfolding kind_at
kind-high n h = get_or-eq_default all_kinds no_kind {n = n} (rw how-many h)

pub told : (s t : ℕ) → ¬ (s ≡ 0) → s < used_kinds → kind_at s ≡ kind_at t → s ≡ t
told s t n h e = go (dec_lt t used_kinds)
  where
    go : Dec (t < used_kinds) → s ≡ t
    go (yes g) = sym (number-low s h) ∙ ap number_of e ∙ number-low t g
    go (no g) = absurd (n (sym (number-low s h) ∙ ap number_of (e ∙ kind-high t (omega arith)) ∙ no_number))
