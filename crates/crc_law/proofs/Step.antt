-- The step of the register is linear over exclusive or, and n steps are a shift and the steps of the n low bits.
-- Assumes nothing.
use mathlib.Core.Path.{◌≡◌, refl, sym, ap, ap₂, ◌∙◌}
use Prim.Native.Nat.{ℕ, zero, suc, ◌+◌, ◌*◌, ◌/◌, ◌%◌, ◌^◌, ◌<◌}
use native.Mathlib.Nat.{pow-suc, mul_assoc, mod-lt, suc-add, zero-add}
use native.Mathlib.Omega.{arith}
use lib.Pow.{pow_pos, split}
use lib.Bits.{bit_xor, differ, xor_zero_r, xor_shifted, xor_comm}
use Rattle.crc_law.specs.Crc.{poly, step_bit, step_bits}
use Rattle.crc_law.proofs.Xor.{bit_elim, odd_lt, xor_half, xor_odd, xor_medial}

poly_linear : (x y : ℕ) → x < 2 → y < 2 → differ x y * poly ≡ bit_xor (x * poly) (y * poly)
poly_linear x y hx hy =
    bit_elim (λ (u : ℕ). differ u y * poly ≡ bit_xor (u * poly) (y * poly))
    (bit_elim (λ (v : ℕ). differ 0 v * poly ≡ bit_xor (0 * poly) (v * poly)) refl refl y hy)
    (bit_elim (λ (v : ℕ). differ 1 v * poly ≡ bit_xor (1 * poly) (v * poly)) refl refl y hy) x hx

pub step_bit_linear : (a b : ℕ) → step_bit (bit_xor a b) ≡ bit_xor (step_bit a) (step_bit b)
unfolding step_bit
step_bit_linear a b =
    ap₂ (λ (x y : ℕ). bit_xor x (y * poly)) (xor_half a b) (xor_odd a b)
    ∙ ap (bit_xor (bit_xor (a / 2) (b / 2))) (poly_linear (a % 2) (b % 2) (odd_lt a) (odd_lt b))
    ∙ xor_medial (a / 2) (b / 2) (a % 2 * poly) (b % 2 * poly)

pub step_bits_linear : (n a b : ℕ) → step_bits n (bit_xor a b) ≡ bit_xor (step_bits n a) (step_bits n b)
unfolding step_bits
step_bits_linear zero a b = refl
step_bits_linear (suc n) a b = ap (step_bits n) (step_bit_linear a b) ∙ step_bits_linear n (step_bit a) (step_bit b)

pub step_bits-add : (n m r : ℕ) → step_bits m (step_bits n r) ≡ step_bits (n + m) r
unfolding step_bits
step_bits-add zero m r = ap (λ (k : ℕ). step_bits k r) (sym (zero-add m))
step_bits-add (suc n) m r = step_bits-add n m (step_bit r) ∙ ap (λ (k : ℕ). step_bits k r) (sym (suc-add n m))

step_bit_double : (a : ℕ) → step_bit (a * 2) ≡ a
unfolding step_bit
step_bit_double a =
    let h : a * 2 / 2 ≡ a = omega arith in
    let z : a * 2 % 2 ≡ 0 = omega arith in
    ap₂ (λ (x y : ℕ). bit_xor x (y * poly)) h z ∙ xor_zero_r a

-- bits that stand n places up come down by n steps, and no polynomial goes in
pub step_bits_shifted : (n a : ℕ) → step_bits n (a * 2 ^ n) ≡ a
unfolding step_bits
step_bits_shifted zero a = omega arith
step_bits_shifted (suc n) a =
    ap (λ (x : ℕ). step_bits n (step_bit x)) (ap (λ (x : ℕ). a * x) (pow-suc 2 n) ∙ sym (mul_assoc a (2 ^ n) 2))
    ∙ ap (step_bits n) (step_bit_double (a * 2 ^ n))
    ∙ step_bits_shifted n a

-- n steps at once: those of the n low bits, and the rest goes right by n
pub step_bits-split : (n x : ℕ) → step_bits n x ≡ bit_xor (step_bits n (x % 2 ^ n)) (x / 2 ^ n)
step_bits-split n x =
    ap (step_bits n) (sym (xor_shifted (x / 2 ^ n) n (x % 2 ^ n) (mod-lt x (pow_pos n)) ∙ split x n))
    ∙ step_bits_linear n (x / 2 ^ n * 2 ^ n) (x % 2 ^ n)
    ∙ ap (λ (y : ℕ). bit_xor y (step_bits n (x % 2 ^ n))) (step_bits_shifted n (x / 2 ^ n))
    ∙ xor_comm (x / 2 ^ n) (step_bits n (x % 2 ^ n))
