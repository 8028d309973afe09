-- What a single statement leaves in the word, for any place and width: `:=` the low bits of the value in the integer, `raise`, `lower` and `invert`
-- their value in the bit; and every other bit is as it was.
-- Assumes nothing.
use mathlib.Core.Path.{◌≡◌, refl, sym, ap, ◌∙◌}
use mathlib.Core.Bool.{Bool, true, false, not as opposite}
use mathlib.Core.Logic.{◌⊎◌, inl, inr}
use Prim.Native.Nat.{ℕ, ◌+◌, ◌-◌, ◌*◌, ◌/◌, ◌%◌, ◌^◌, ◌<◌, ◌≤◌}
use native.Mathlib.Nat.{mod-lt}
use native.Mathlib.Omega.{arith}
use borrow.Author.Tests.{ltb-true, ltb-false}
use lib.Dec.{ltb}
use lib.IntN.{ℤ}
use lib.Pow.{pow_pos, ones_sub-lt}
use Rattle.meaning.specs.Tree.{Change, Target}
use Rattle.meaning.specs.Numbers.{Variable, Reads, bit_of, low_bits}
use Rattle.meaning.specs.Tries.{try_bit, changed, bit_at, change_tries, try_bits, taken}
use Rattle.meaning.proofs.Bits.{bit_shifted, bit_below, bit_past, bit_turned, bit-field, bit_power, bit_power_other, no_bit, same_bits}
use Rattle.meaning.proofs.LowBits.{low-lt}
use Rattle.meaning.proofs.Tries.{bit-apart, bits-apart, taken-one, taken-zero, taken_not}

module _ (low width v : ℕ) (fits : v < 2 ^ width) (word : ℕ) where
  kept-one : (i : ℕ) → bit_of v i ≡ true → bit_of (taken (try_bits low width v) word) (low + i) ≡ true
  kept-one i e = taken-one (try_bits low width v) word (low + i) (bits-apart low width v fits) (bit_shifted v low i ∙ e)

  kept-zero : (i : ℕ) → i < width → bit_of v i ≡ false → bit_of (taken (try_bits low width v) word) (low + i) ≡ false
  kept-zero i h e =
      taken-zero (try_bits low width v) word (low + i) (bit_shifted (2 ^ width - 1 - v) low i ∙ bit_turned v width i fits h ∙ ap opposite e)

  kept-bit : (i : ℕ) → i < width → bit_of (taken (try_bits low width v) word) (low + i) ≡ bit_of v i
  kept-bit i h = by (bit_of v i) refl
    where
      by : (b : Bool) → bit_of v i ≡ b → bit_of (taken (try_bits low width v) word) (low + i) ≡ bit_of v i
      by true e = kept-one i e ∙ sym e
      by false e = kept-zero i h e ∙ sym e

  kept_field : taken (try_bits low width v) word / 2 ^ low % 2 ^ width ≡ v
  kept_field = same_bits _ _ (λ j. by j (ltb j width) refl)
    where
      by : (j : ℕ) (t : Bool) → ltb j width ≡ t → bit_of (taken (try_bits low width v) word / 2 ^ low % 2 ^ width) j ≡ bit_of v j
      by j true e =
          let h : j < width = ltb-true j width e in
          bit-field (taken (try_bits low width v) word) low width j h ∙ kept-bit j h
      by j false e =
          let h : width ≤ j = ltb-false j width e in
          bit_past _ width j (mod-lt (taken (try_bits low width v) word / 2 ^ low) (pow_pos width)) h ∙ sym (bit_past v width j fits h)

  -- a mask of the integer's bits has no bit elsewhere
  elsewhere : (u j : ℕ) → u < 2 ^ width → (j < low) ⊎ (low + width ≤ j) → bit_of (u * 2 ^ low) j ≡ false
  elsewhere u j k (inl h) = bit_below u low j h
  elsewhere u j k (inr h) =
      ap (bit_of (u * 2 ^ low)) (omega arith) ∙ bit_shifted u low (j - low) ∙ bit_past u width (j - low) k (omega arith)

  others_stay : (j : ℕ) → (j < low) ⊎ (low + width ≤ j) → bit_of (taken (try_bits low width v) word) j ≡ bit_of word j
  others_stay j o = taken_not (try_bits low width v) word j (elsewhere v j fits o) (elsewhere (2 ^ width - 1 - v) j (ones_sub-lt width v) o)

pub kept : (low width : ℕ) (z : ℤ) (word : ℕ)
    → taken (try_bits low width (low_bits width z)) word / 2 ^ low % 2 ^ width ≡ low_bits width z
kept low width z word = kept_field low width (low_bits width z) (low-lt width z) word

pub others : (low width : ℕ) (z : ℤ) (word j : ℕ) → (j < low) ⊎ (low + width ≤ j)
    → bit_of (taken (try_bits low width (low_bits width z)) word) j ≡ bit_of word j
others low width z word j o = others_stay low width (low_bits width z) (low-lt width z) word j o

-- ---- "raise will assert .., lower will deassert it, and invert will force a change of value"

set-bit : (j : ℕ) (b : Bool) (word : ℕ) → bit_of (taken (try_bit j b) word) j ≡ b
set-bit j true word = taken-one (try_bit j true) word j (bit-apart j true) (bit_power j)
set-bit j false word = taken-zero (try_bit j false) word j (bit_power j)

set-others : (j : ℕ) (b : Bool) (word i : ℕ) → (i ≡ j → ⊥) → bit_of (taken (try_bit j b) word) i ≡ bit_of word i
set-others j true word i n = taken_not (try_bit j true) word i (bit_power_other j i n) (no_bit i)
set-others j false word i n = taken_not (try_bit j false) word i (no_bit i) (bit_power_other j i n)

pub changed-bit : (c : Change) (t : Target Variable) (r : Reads)
    → bit_of (taken (change_tries c t r) r.word) (bit_at t) ≡ changed c (bit_of r.word (bit_at t))
changed-bit c t r = set-bit (bit_at t) (changed c (bit_of r.word (bit_at t))) r.word

pub changed-others : (c : Change) (t : Target Variable) (r : Reads) (i : ℕ) → (i ≡ bit_at t → ⊥)
    → bit_of (taken (change_tries c t r) r.word) i ≡ bit_of r.word i
changed-others c t r i n = set-others (bit_at t) (changed c (bit_of r.word (bit_at t))) r.word i n
