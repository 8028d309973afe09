-- The laws by which code meets the scan: one for each outcome, in the terms of code (a text s, places in it, i + 1).
-- Assumes nothing.
use mathlib.Core.Bool.{Bool, true, false, cond}
use mathlib.Core.Path.{◌≡◌, refl}
use mathlib.Core.List.{List, [], ◌∷◌}
use Prim.Native.Nat.{ℕ, zero, suc, ◌+◌, ◌≤◌, ◌<◌}
use native.Mathlib.Numerals.{add-one}
use native.Mathlib.Omega.{arith}
use lib.ListN.{length, get_or, take, drop, length-drop}
use lib.Dec.{eqb}
use borrow.Author.Tests.{ne_eqb}
use Rattle.language.specs.Words.{letter, digit, in_name, in_number, signs, first_of, kind_of, too_large, word_at}
use Rattle.language.specs.Scan.{span, begins, length_of, word_length, found, stops, over, next_at}
use Rattle.language.proofs.Runs.{span_fits}

-- ---- a loop over a run of bytes

module _ (goesOn : ℕ → ℕ → Bool) where
  span_yes : (s : List ℕ) (i : ℕ) → i < length s → goesOn (get_or s i 0) (get_or s (suc i) 0) ≡ true → span goesOn (drop i s) ≡ suc (span goesOn (drop (suc i) s))
  unfolding span
  span_yes [] i h e = absurd (omega arith)
  span_yes (c ∷ s) zero h e = rw e
  span_yes (c ∷ s) (suc i) h e = span_yes s i (omega arith) e

  span_no : (s : List ℕ) (i : ℕ) → i < length s → goesOn (get_or s i 0) (get_or s (suc i) 0) ≡ false → span goesOn (drop i s) ≡ 0
  unfolding span
  span_no [] i h e = absurd (omega arith)
  span_no (c ∷ s) zero h e = rw e
  span_no (c ∷ s) (suc i) h e = span_no s i (omega arith) e

  span-end : (s : List ℕ) (i : ℕ) → length s ≤ i → span goesOn (drop i s) ≡ 0
  unfolding span
  span-end [] zero h = refl
  span-end [] (suc i) h = refl
  span-end (c ∷ s) zero h = absurd (omega arith)
  span-end (c ∷ s) (suc i) h = span-end s i (omega arith)

  -- where a run goes on it has a byte
  pub span-some : (s : List ℕ) (i : ℕ) → i < length s → goesOn (get_or s i 0) (get_or s (suc i) 0) ≡ true → 0 < span goesOn (drop i s)
  span-some s i h e = omega (arith, span_yes s i h e)

  pub run_on : (s : List ℕ) (i e : ℕ) → i < length s → goesOn (get_or s i 0) (get_or s (i + 1) 0) ≡ true → i + span goesOn (drop i s) ≡ e → i + 1 + span goesOn (drop (i + 1) s) ≡ e
  run_on s i e h t f = simp add-one (omega (arith, span_yes s i h (rw add-one at t)))

  pub run-stops : (s : List ℕ) (i e : ℕ) → i < length s → goesOn (get_or s i 0) (get_or s (i + 1) 0) ≡ false → i + span goesOn (drop i s) ≡ e → i ≡ e
  run-stops s i e h t f = omega (arith, span_no s i h (rw add-one at t))

  pub run_over : (s : List ℕ) (i e : ℕ) → length s ≤ i → i + span goesOn (drop i s) ≡ e → i ≡ e
  run_over s i e h f = omega (arith, span-end s i h)

  pub run_inside : (s : List ℕ) (i : ℕ) → i ≤ length s → i + span goesOn (drop i s) ≤ length s
  run_inside s i h = omega (arith, span_fits goesOn (drop i s), length-drop i s)

-- ---- the word at a place

pub first_byte : (s : List ℕ) (i : ℕ) → get_or (drop i s) 0 0 ≡ get_or s i 0
first_byte [] zero = refl
first_byte [] (suc i) = refl
first_byte (c ∷ s) zero = refl
first_byte (c ∷ s) (suc i) = first_byte s i

module _ (s : List ℕ) (at : ℕ) where
  pub name-length : letter (get_or s at 0) ≡ true → word_length (drop at s) ≡ span in_name (drop at s)
  unfolding word_length
  name-length e = rw (first_byte s at, e)

  pub number-length : letter (get_or s at 0) ≡ false → digit (get_or s at 0) ≡ true → word_length (drop at s) ≡ span in_number (drop at s)
  unfolding word_length
  number-length e f = rw (first_byte s at, e, f)

  pub sign-length : letter (get_or s at 0) ≡ false → digit (get_or s at 0) ≡ false → word_length (drop at s) ≡ length_of (first_of (begins (drop at s)) signs)
  unfolding word_length
  sign-length e f = rw (first_byte s at, e, f)

  pub next_over : length s ≤ at → next_at at (drop at s) ≡ over
  unfolding next_at
  next_over h = go (drop at s) (omega (arith, length-drop at s))
    where
      go : (l : List ℕ) → length l ≡ 0 → next_at at l ≡ over
      go [] e = refl
      go (c ∷ l) e = absurd (omega arith)

  -- by the length of the word there, and whether it is too large
  next_here : (l : List ℕ) → 0 < length l → (n : ℕ) → word_length l ≡ n → (z t : Bool) → eqb n 0 ≡ z → too_large (kind_of (take n l)) (take n l) ≡ t
      → next_at at l ≡ cond z (stops at) (cond t (stops at) (found (word_at at (take n l))))
  unfolding next_at
  next_here [] h n e z t f g = absurd (omega arith)
  next_here (c ∷ l) h n e z t f g = rw (e, f, g)

  module _ (h : at < length s) where
    left : 0 < length (drop at s)
    left = omega (arith, length-drop at s)

    pub next-stops : word_length (drop at s) ≡ 0 → next_at at (drop at s) ≡ stops at
    next-stops e = next_here (drop at s) left 0 e true (too_large (kind_of (take 0 (drop at s))) (take 0 (drop at s))) refl refl

    module _ (n : ℕ) (e : word_length (drop at s) ≡ n) (some : ¬ (n ≡ 0)) where
      pub next-large : too_large (kind_of (take n (drop at s))) (take n (drop at s)) ≡ true → next_at at (drop at s) ≡ stops at
      next-large f = next_here (drop at s) left n e false true (ne_eqb n 0 some) f

      pub next-found : too_large (kind_of (take n (drop at s))) (take n (drop at s)) ≡ false → next_at at (drop at s) ≡ found (word_at at (take n (drop at s)))
      next-found f = next_here (drop at s) left n e false false (ne_eqb n 0 some) f
