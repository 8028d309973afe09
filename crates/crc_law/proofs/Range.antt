-- The register of bytes stays below 2 ^ 32, and so does the check.
-- Assumes nothing.
use Prim.Native.Nat.{ℕ, zero, suc, ◌*◌, ◌/◌, ◌%◌, ◌^◌, ◌<◌}
use native.Mathlib.Omega.{arith}
use mathlib.Core.List.{List, [], ◌∷◌}
use lib.Bits.{bit_xor, xor_lt}
use Rattle.crc_law.specs.Crc.{poly, step_bit, step_bits, step_byte, register, crc_of, AllBytes}

pub step_bit-lt : (r : ℕ) → r < 2 ^ 32 → step_bit r < 2 ^ 32
unfolding step_bit
step_bit-lt r h = xor_lt 32 (r / 2) (r % 2 * poly) (omega arith) (omega arith)

pub step_bits-lt : (n r : ℕ) → r < 2 ^ 32 → step_bits n r < 2 ^ 32
unfolding step_bits
step_bits-lt zero r h = h
step_bits-lt (suc n) r h = step_bits-lt n (step_bit r) (step_bit-lt r h)

pub step_byte-lt : (r b : ℕ) → r < 2 ^ 32 → b < 256 → step_byte r b < 2 ^ 32
unfolding step_byte
step_byte-lt r b h hb = step_bits-lt 8 (bit_xor r b) (xor_lt 32 r b h (omega arith))

pub register-lt : (r : ℕ) (s : List ℕ) → r < 2 ^ 32 → AllBytes s → register r s < 2 ^ 32
unfolding register
register-lt r [] h a = h
register-lt r (b ∷ s) h a = register-lt (step_byte r b) s (step_byte-lt r b h (a 0)) (λ k. a (suc k))

-- of any list: the final complement alone keeps it there
pub crc_lt : (s : List ℕ) → crc_of s < 2 ^ 32
unfolding crc_of
crc_lt s = omega arith
