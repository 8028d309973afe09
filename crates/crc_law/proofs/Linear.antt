-- The whole register is linear: over the exclusive or of two lists of one length it is the exclusive or of the two registers.
-- Assumes nothing.
use mathlib.Core.Path.{◌≡◌, refl, ap, ◌∙◌}
use Prim.Native.Nat.{ℕ}
use native.Mathlib.Omega.{arith}
use mathlib.Core.List.{List, [], ◌∷◌}
use lib.ListN.{length}
use lib.Bits.{bit_xor}
use Rattle.crc_law.specs.Crc.{step_bits, step_byte, register}
use Rattle.crc_law.specs.Change.{xor_lists}
use Rattle.crc_law.proofs.Xor.{xor_medial}
use Rattle.crc_law.proofs.Step.{step_bits_linear}

pub step_byte_linear : (a b x y : ℕ) → step_byte (bit_xor a b) (bit_xor x y) ≡ bit_xor (step_byte a x) (step_byte b y)
unfolding step_byte
step_byte_linear a b x y = ap (step_bits 8) (xor_medial a b x y) ∙ step_bits_linear 8 (bit_xor a x) (bit_xor b y)

pub register_linear : (a b : ℕ) (s t : List ℕ) → length s ≡ length t → register (bit_xor a b) (xor_lists s t) ≡ bit_xor (register a s) (register b t)
unfolding register xor_lists
register_linear a b [] [] l = refl
register_linear a b [] (y ∷ t) l = absurd (omega arith)
register_linear a b (x ∷ s) [] l = absurd (omega arith)
register_linear a b (x ∷ s) (y ∷ t) l =
    ap (λ (r : ℕ). register r (xor_lists s t)) (step_byte_linear a b x y) ∙ register_linear (step_byte a x) (step_byte b y) s t (omega arith)
