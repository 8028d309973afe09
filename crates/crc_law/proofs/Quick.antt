-- The register, computed in fewer steps: `bit_xor` ends with its first number, so the one that is mostly 0 goes first.
-- Assumes nothing.
use mathlib.Core.Path.{◌≡◌, refl, ap, ◌∙◌}
use Prim.Native.Nat.{ℕ, zero, suc, ◌*◌, ◌/◌, ◌%◌}
use mathlib.Core.List.{List, [], ◌∷◌}
use lib.Bits.{bit_xor, xor_comm}
use Rattle.crc_law.specs.Crc.{poly, step_bit, step_bits, step_byte, register}

abbrev pub quick_bits : ℕ → ℕ → ℕ
quick_bits zero r = r
quick_bits (suc n) r = quick_bits n (bit_xor (r % 2 * poly) (r / 2))

abbrev pub quick : ℕ → List ℕ → ℕ
quick r [] = r
quick r (b ∷ s) = quick (quick_bits 8 (bit_xor b r)) s

same_bits : (n r : ℕ) → step_bits n r ≡ quick_bits n r
unfolding step_bit step_bits
same_bits zero r = refl
same_bits (suc n) r = same_bits n (step_bit r) ∙ ap (quick_bits n) (xor_comm (r / 2) (r % 2 * poly))

pub same-register : (r : ℕ) (s : List ℕ) → register r s ≡ quick r s
unfolding step_byte register
same-register r [] = refl
same-register r (b ∷ s) = same-register (step_byte r b) s ∙ ap (λ (x : ℕ). quick x s) (ap (step_bits 8) (xor_comm r b) ∙ same_bits 8 (bit_xor b r))
