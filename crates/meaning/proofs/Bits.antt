-- Bit by bit: what the masks' operations do to each bit, and numbers that are equal by their bits.
-- Assumes nothing.
use mathlib.Core.Path.{◌≡◌, refl, sym, ap, ◌∙◌}
use mathlib.Core.Bool.{Bool, true, false, not as opposite}
use Prim.Native.Nat.{ℕ, zero, suc, ◌+◌, ◌-◌, ◌*◌, ◌/◌, ◌%◌, ◌^◌, ◌≤◌, ◌<◌}
use native.Mathlib.Nat.{mod-lt, div-one, div-eq_of_lt, lt_of_lt_of_le, mul_comm, mul_assoc, mul-le-mul_left, mul-sub, one-mul}
use native.Mathlib.Omega.{arith}
use borrow.Author.Tests.{ltb-true, ltb-false}
use lib.Dec.{ltb}
use lib.Arith.{bin_ind}
use lib.Bits.{bit_and, bit_or, and_shr, and_mod, or_shr, or_mod, xor_shr, xor_mod, shifted_even}
use lib.Pow.{pow_pos, pow_mono, pow-lt, pow-add, shr_lt, shr-shr, shl-shr, split, high, low, le_ones, ones_split, ones_sub-lt, field, mod-mod-pow}
use Rattle.meaning.specs.Tree.{and, or}
use Rattle.meaning.specs.Numbers.{is_one, bit_of, combine}
use Rattle.meaning.specs.Tries.{without}

-- bit j as a number
abbrev digit : ℕ → ℕ → ℕ
digit n j = n / 2 ^ j % 2

digit_lt : (n j : ℕ) → digit n j < 2
digit_lt n j = mod-lt (n / 2 ^ j) (omega arith)

or_digits : (x y : ℕ) → x < 2 → y < 2 → is_one (bit_or x y) ≡ combine or (is_one x) (is_one y)
or_digits zero y h k = refl
or_digits (suc zero) zero h k = refl
or_digits (suc zero) (suc zero) h k = refl
or_digits (suc zero) (suc (suc y)) h k = absurd (omega arith)
or_digits (suc (suc x)) y h k = absurd (omega arith)

without_digits : (x y : ℕ) → x < 2 → y < 2 → is_one (without x y) ≡ combine and (is_one x) (opposite (is_one y))
without_digits zero y h k = refl
without_digits (suc zero) zero h k = refl
without_digits (suc zero) (suc zero) h k = refl
without_digits (suc zero) (suc (suc y)) h k = absurd (omega arith)
without_digits (suc (suc x)) y h k = absurd (omega arith)

pub bit_or_lem : (a b j : ℕ) → bit_of (bit_or a b) j ≡ combine or (bit_of a j) (bit_of b j)
bit_or_lem a b j = rw (or_shr a b j, or_mod (a / 2 ^ j) (b / 2 ^ j) 1) (or_digits (digit a j) (digit b j) (digit_lt a j) (digit_lt b j))

pub bit-without : (a b j : ℕ) → bit_of (without a b) j ≡ combine and (bit_of a j) (opposite (bit_of b j))
bit-without a b j =
    rw (xor_shr a (bit_and a b) j, and_shr a b j, xor_mod (a / 2 ^ j) (bit_and (a / 2 ^ j) (b / 2 ^ j)) 1, and_mod (a / 2 ^ j) (b / 2 ^ j) 1)
    (without_digits (digit a j) (digit b j) (digit_lt a j) (digit_lt b j))

-- ---- shifted, past the end, and turned

-- v from the bit `low` on
pub bit_shifted : (v low j : ℕ) → bit_of (v * 2 ^ low) (low + j) ≡ bit_of v j
bit_shifted v low j = ap (λ (x : ℕ). is_one (x % 2)) (sym (shr-shr (v * 2 ^ low) low j) ∙ ap (λ (x : ℕ). x / 2 ^ j) (shl-shr v low))

shifted_below : (v d j : ℕ) → v * 2 ^ (suc d + j) / 2 ^ j % 2 ≡ 0
shifted_below v d j =
    ap (λ (x : ℕ). x % 2) (ap (λ (x : ℕ). x / 2 ^ j) (ap (λ (x : ℕ). v * x) (pow-add 2 (suc d) j) ∙ sym (mul_assoc v (2 ^ suc d) (2 ^ j))) ∙ shl-shr (v * 2 ^ suc d) j)
    ∙ shifted_even v d

pub bit_below : (v low j : ℕ) → j < low → bit_of (v * 2 ^ low) j ≡ false
bit_below v low j h =
    ap is_one
    (ap (λ (x : ℕ). v * 2 ^ x / 2 ^ j % 2) (omega arith) ∙ shifted_below v (low - j - 1) j)

pub bit_past : (v w j : ℕ) → v < 2 ^ w → w ≤ j → bit_of v j ≡ false
bit_past v w j h k = ap (λ (x : ℕ). is_one (x % 2)) (div-eq_of_lt (lt_of_lt_of_le h (pow_mono k)))

-- the upper and the lower digits of a number with every bit turned
pub turned : (v j k : ℕ) → v < 2 ^ (j + k) → 2 ^ (j + k) - 1 - v ≡ (2 ^ j - 1 - v / 2 ^ k) * 2 ^ k + (2 ^ k - 1 - v % 2 ^ k)
turned v j k h =
    omega (
      arith,
      ones_split j k,
      split v k,
      shr_lt j k h,
      mod-lt v (pow_pos k),
      mul-le-mul_left (2 ^ k) (le_ones j (shr_lt j k h)),
      mul_comm (2 ^ j - 1 - v / 2 ^ k) (2 ^ k) ∙ mul-sub (2 ^ k) (2 ^ j - 1) (v / 2 ^ k),
      mul_comm (2 ^ k) (2 ^ j - 1),
      mul_comm (2 ^ k) (v / 2 ^ k),
    )

turn-digit : (x : ℕ) → x < 2 → is_one (1 - x) ≡ opposite (is_one x)
turn-digit zero h = refl
turn-digit (suc zero) h = refl
turn-digit (suc (suc x)) h = absurd (omega arith)

-- the highest of j + 1 digits above j, turned
turned_bit : (v d j : ℕ) → v < 2 ^ ((d + 1) + j) → bit_of (2 ^ ((d + 1) + j) - 1 - v) j ≡ opposite (bit_of v j)
turned_bit v d j h =
    ap (λ (x : ℕ). is_one (x / 2 ^ j % 2)) (turned v (d + 1) j h)
    ∙ ap (λ (x : ℕ). is_one (x % 2)) (high (2 ^ (d + 1) - 1 - v / 2 ^ j) j (ones_sub-lt j (v % 2 ^ j)))
    ∙ ap (λ (x : ℕ). is_one (x % 2)) (turned (v / 2 ^ j) d 1 (shr_lt (d + 1) j h))
    ∙ ap is_one (low (2 ^ d - 1 - v / 2 ^ j / 2) 1 (ones_sub-lt 1 (v / 2 ^ j % 2)))
    ∙ turn-digit (digit v j) (digit_lt v j)

pub bit_turned : (v w j : ℕ) → v < 2 ^ w → j < w → bit_of (2 ^ w - 1 - v) j ≡ opposite (bit_of v j)
bit_turned v w j h k =
    let e : (w - j - 1 + 1) + j ≡ w = omega arith in
    ap (λ (x : ℕ). bit_of (2 ^ x - 1 - v) j) (sym e) ∙ turned_bit v (w - j - 1) j (rw e h)

-- ---- one bit alone

-- 2 ^ k is 1 from the bit k on
pub bit_power : (k : ℕ) → bit_of (2 ^ k) k ≡ true
bit_power k =
    ap (λ (x : ℕ). bit_of x k) (sym (one-mul (2 ^ k))) ∙ ap (bit_of (1 * 2 ^ k)) (omega arith) ∙ bit_shifted 1 k 0

pub bit_power_other : (k j : ℕ) → (j ≡ k → ⊥) → bit_of (2 ^ k) j ≡ false
bit_power_other k j n = by (ltb j k) refl
  where
    by : (t : Bool) → ltb j k ≡ t → bit_of (2 ^ k) j ≡ false
    by true e = ap (λ (x : ℕ). bit_of x j) (sym (one-mul (2 ^ k))) ∙ bit_below 1 k j (ltb-true j k e)
    by false e = bit_past (2 ^ k) j j (pow-lt (omega (arith, ltb-false j k e))) (omega arith)

-- ---- equal by their bits

same-digit : (x y : ℕ) → x < 2 → y < 2 → is_one x ≡ is_one y → x ≡ y
same-digit zero zero h k e = refl
same-digit zero (suc zero) h k e = cc
same-digit (suc zero) zero h k e = cc
same-digit (suc zero) (suc zero) h k e = refl
same-digit x (suc (suc y)) h k e = absurd (omega arith)
same-digit (suc (suc x)) zero h k e = absurd (omega arith)
same-digit (suc (suc x)) (suc zero) h k e = absurd (omega arith)

half_bit : (n j : ℕ) → bit_of (n / 2) j ≡ bit_of n (1 + j)
half_bit n j = ap (λ (x : ℕ). is_one (x % 2)) (shr-shr n 1 j)

pub no_bit : (j : ℕ) → bit_of 0 j ≡ false
no_bit j = bit_past 0 0 j (omega arith) (omega arith)

lowest : (a b : ℕ) → bit_of a 0 ≡ bit_of b 0 → a % 2 ≡ b % 2
lowest a b e =
    same-digit (a % 2) (b % 2) (mod-lt a (omega arith)) (mod-lt b (omega arith))
    (ap (λ (x : ℕ). is_one (x % 2)) (sym (div-one a)) ∙ e ∙ ap (λ (x : ℕ). is_one (x % 2)) (div-one b))

all-clear : (b : ℕ) → ((j : ℕ) → bit_of b j ≡ false) → b ≡ 0
all-clear =
    bin_ind (λ (n : ℕ). ((j : ℕ) → bit_of n j ≡ false) → n ≡ 0) (λ h. refl)
    (λ n ih h. omega (arith, ih (λ j. half_bit n j ∙ h (1 + j)), lowest n 0 (h 0)))

pub same_bits : (a b : ℕ) → ((j : ℕ) → bit_of a j ≡ bit_of b j) → a ≡ b
same_bits =
    bin_ind (λ (n : ℕ). (b : ℕ) → ((j : ℕ) → bit_of n j ≡ bit_of b j) → n ≡ b)
    (λ b h. sym (all-clear b (λ j. sym (h j) ∙ no_bit j)))
    (λ n ih b h. omega (arith, ih (b / 2) (λ j. half_bit n j ∙ h (1 + j) ∙ sym (half_bit b j)), lowest n b (h 0)))

-- ---- bits of a field

field-bit : (n d j : ℕ) → bit_of (n % 2 ^ ((d + 1) + j)) j ≡ bit_of n j
field-bit n d j = ap (λ (x : ℕ). is_one (x % 2)) (field n (d + 1) j) ∙ ap is_one (mod-mod-pow (n / 2 ^ j) d 1)

pub bit-field : (n low width j : ℕ) → j < width → bit_of (n / 2 ^ low % 2 ^ width) j ≡ bit_of n (low + j)
bit-field n low width j h =
    ap (λ (x : ℕ). bit_of (n / 2 ^ low % 2 ^ x) j) (omega arith)
    ∙ field-bit (n / 2 ^ low) (width - j - 1) j
    ∙ ap (λ (x : ℕ). is_one (x % 2)) (shr-shr n low j)
