-- Several bytes at once: the register after a list in two parts, and after a list taken as one number.
-- Assumes nothing.
use mathlib.Core.Path.{◌≡◌, refl, sym, ap, ◌∙◌}
use Prim.Native.Nat.{ℕ, suc, ◌+◌, ◌*◌, ◌^◌, ◌≤◌, ◌<◌}
use native.Mathlib.Nat.{lt_of_lt_of_le}
use native.Mathlib.Omega.{arith}
use mathlib.Core.List.{List, [], ◌∷◌, ◌++◌}
use lib.ListN.{length}
use lib.Pow.{pow_mono}
use lib.Bits.{bit_xor, xor_zero_r, xor_shifted, xor_comm, xor_lt}
use Rattle.crc_law.specs.Crc.{step_bits, step_byte, register, le_value, AllBytes}
use Rattle.crc_law.proofs.Xor.{xor_assoc, xor_left_inj}
use Rattle.crc_law.proofs.Step.{step_bits_linear, step_bits-add, step_bits_shifted}
use Rattle.crc_law.proofs.Bytes.{le_value-lt, le_value_inj}
use Rattle.crc_law.proofs.Lossless.{step_bits_inj}

pub register-append : (r : ℕ) (s t : List ℕ) → register r (s ++ t) ≡ register (register r s) t
unfolding register
register-append r [] t = refl
register-append r (b ∷ s) t = register-append (step_byte r b) s t

-- n bytes one after the other are one number of 8 * n bits
pub register-run : (r : ℕ) (s : List ℕ) → AllBytes s → register r s ≡ step_bits (8 * length s) (bit_xor r (le_value s))
unfolding register le_value step_byte step_bits
register-run r [] h = sym (xor_zero_r r)
register-run r (b ∷ s) h =
    let L = le_value s in
    let n = 8 * length s in
    let e : 8 + n ≡ 8 * length (b ∷ s) = omega arith in
    register-run (step_bits 8 (bit_xor r b)) s (λ k. h (suc k))
    ∙ ap (λ (x : ℕ). step_bits n (bit_xor (step_bits 8 (bit_xor r b)) x)) (sym (step_bits_shifted 8 L))
    ∙ ap (step_bits n) (sym (step_bits_linear 8 (bit_xor r b) (L * 2 ^ 8)))
    ∙ ap (λ (x : ℕ). step_bits n (step_bits 8 x)) (xor_assoc r b (L * 2 ^ 8) ∙ ap (bit_xor r) (xor_comm b (L * 2 ^ 8) ∙ xor_shifted L 8 b (h 0)))
    ∙ step_bits-add 8 n (bit_xor r (L * 2 ^ 8 + b))
    ∙ ap (λ (k : ℕ). step_bits k (bit_xor r (L * 2 ^ 8 + b))) e

le_value-short : (s : List ℕ) → length s ≤ 4 → AllBytes s → le_value s < 2 ^ 32
le_value-short s l h = lt_of_lt_of_le (le_value-lt s h) (pow_mono {j = 32} (omega arith))

-- from one register, two runs of at most four bytes that end in one register are the same run
pub run_inj : (r : ℕ) (w v : List ℕ) → r < 2 ^ 32 → length w ≡ length v → length w ≤ 4 → AllBytes w → AllBytes v → register r w ≡ register r v → w ≡ v
run_inj r w v hr l l4 hw hv e =
    le_value_inj w v l hw hv
    (xor_left_inj r (le_value w) (le_value v)
    (step_bits_inj (8 * length w) (bit_xor r (le_value w)) (bit_xor r (le_value v))
    (xor_lt 32 r (le_value w) hr (le_value-short w l4 hw))
    (xor_lt 32 r (le_value v) hr (le_value-short v (omega arith) hv))
    (sym (register-run r w hw) ∙ e ∙ register-run r v hv ∙ ap (λ (k : ℕ). step_bits (8 * k) (bit_xor r (le_value v))) (sym l))))
