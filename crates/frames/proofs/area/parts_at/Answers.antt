-- `frames::area::parts_at` meets its contract.
-- Assumes nothing.
use Rattle.std.proofs.Common.{arith}
use Rattle.frames.specs.Layout.{parts_at}
use Rattle.frames.proofs.area.parts_at.Goals as goal

pub returns : goal.returns
unfolding parts_at
returns c = rw (c.from_le_bytes.ensures, ← c.byte_at.ensures, ← c.byte_at-2.ensures) (omega arith)
