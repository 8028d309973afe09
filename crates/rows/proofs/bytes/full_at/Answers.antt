use native.Mathlib.Omega.{arith}
use Rattle.file_law.specs.Bytes.{word4}
use Rattle.rows.proofs.bytes.full_at.Goals as goal

pub returns : goal.returns
unfolding word4
returns c = omega (arith, c.from_le_bytes.ensures)
