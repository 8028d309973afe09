use native.Mathlib.Omega.{arith}
use Rattle.file_law.specs.Bytes.{word2}
use Rattle.rows.proofs.bytes.half_at.Goals as goal

pub returns : goal.returns
unfolding word2
returns c = omega (arith, c.from_le_bytes.ensures)
