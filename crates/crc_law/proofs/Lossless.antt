-- On 32 bits a step of the register loses nothing: two registers that it makes equal were equal.
-- Assumes nothing.
use mathlib.Core.Path.{◌≡◌, refl, sym, ap, ◌∙◌}
use Prim.Native.Nat.{ℕ, zero, suc, ◌*◌, ◌/◌, ◌%◌, ◌^◌, ◌<◌}
use native.Mathlib.Omega.{arith}
use mathlib.Core.List.{List, [], ◌∷◌}
use lib.Bits.{bit_xor, xor_zero_r, xor_comm, xor_lt, xor_self}
use Rattle.crc_law.specs.Crc.{poly, step_bit, step_bits, step_byte, register, AllBytes}
use Rattle.crc_law.proofs.Xor.{bit_elim, odd_lt, xor_zero-eq, xor_left_inj}
use Rattle.crc_law.proofs.Step.{step_bit_linear}
use Rattle.crc_law.proofs.Range.{step_bit-lt, step_byte-lt}

bit_cases : {P : Type 0} (x : ℕ) → (x % 2 ≡ 0 → P) → (x % 2 ≡ 1 → P) → P
bit_cases {P} x f g = bit_elim (λ (u : ℕ). x % 2 ≡ u → P) f g (x % 2) (odd_lt x) refl

-- the polynomial's top bit is 1, and x / 2 has none there
step_bit_kernel : (x : ℕ) → x < 2 ^ 32 → step_bit x ≡ 0 → x ≡ 0
unfolding step_bit
step_bit_kernel x h e =
    bit_cases x
    (λ z. let e' : x / 2 ≡ 0 = sym (xor_zero_r (x / 2)) ∙ ap (λ (u : ℕ). bit_xor (x / 2) (u * poly)) (sym z) ∙ e in omega arith)
    (λ o. let e' : x / 2 ≡ poly = xor_zero-eq (x / 2) poly (ap (λ (u : ℕ). bit_xor (x / 2) (u * poly)) (sym o) ∙ e) in omega arith)

pub step_bit_inj : (a b : ℕ) → a < 2 ^ 32 → b < 2 ^ 32 → step_bit a ≡ step_bit b → a ≡ b
step_bit_inj a b ha hb e =
    xor_zero-eq a b
    (step_bit_kernel (bit_xor a b) (xor_lt 32 a b ha hb)
    (step_bit_linear a b ∙ ap (λ (x : ℕ). bit_xor x (step_bit b)) e ∙ xor_self (step_bit b)))

pub step_bits_inj : (n a b : ℕ) → a < 2 ^ 32 → b < 2 ^ 32 → step_bits n a ≡ step_bits n b → a ≡ b
unfolding step_bits
step_bits_inj zero a b ha hb e = e
step_bits_inj (suc n) a b ha hb e = step_bit_inj a b ha hb (step_bits_inj n (step_bit a) (step_bit b) (step_bit-lt a ha) (step_bit-lt b hb) e)

pub step_byte_inj : (a b x : ℕ) → a < 2 ^ 32 → b < 2 ^ 32 → x < 256 → step_byte a x ≡ step_byte b x → a ≡ b
unfolding step_byte
step_byte_inj a b x ha hb hx e =
    xor_left_inj x a b
    (xor_comm x a ∙ step_bits_inj 8 (bit_xor a x) (bit_xor b x) (xor_lt 32 a x ha (omega arith)) (xor_lt 32 b x hb (omega arith)) e ∙ xor_comm b x)

pub register_inj : (a b : ℕ) (s : List ℕ) → a < 2 ^ 32 → b < 2 ^ 32 → AllBytes s → register a s ≡ register b s → a ≡ b
unfolding register
register_inj a b [] ha hb h e = e
register_inj a b (x ∷ s) ha hb h e =
    step_byte_inj a b x ha hb (h 0)
    (register_inj (step_byte a x) (step_byte b x) s (step_byte-lt a x ha (h 0)) (step_byte-lt b x hb (h 0)) (λ k. h (suc k)) e)
