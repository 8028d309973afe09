-- `crc::crc` meets its contract: the constant's rule is one test of 256 entries, which antt computes.
-- Assumes nothing.
use mathlib.Core.Path.{refl, ap}
use Prim.Native.Nat.{ℕ, ◌-◌}
use Rattle.crc_law.specs.Crc.{ones, step_bit, step_bits, crc_of}
use Rattle.crc.proofs.Rule.{tested}
use Rattle.crc.proofs.crc.Goals as goal

pub over-requires : goal.over-requires
unfolding step_bits step_bit
over-requires c = tested refl tt

pub returns : goal.returns
unfolding crc_of
returns c = ap (λ (x : ℕ). ones - x) c.over.ensures
