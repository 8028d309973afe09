-- `frames::area::place_at` meets its contract.
-- Assumes nothing.
use Rattle.std.proofs.Common.{arith}
use Rattle.names.proofs.Small.{thirteen}
use Rattle.frames.specs.Layout.{place_at}
use Rattle.frames.proofs.area.place_at.Goals as goal

pub returns : goal.returns
unfolding place_at
returns c = rw (c.from_le_bytes.ensures, ← c.byte_at.ensures, ← c.byte_at-2.ensures) (thirteen c.byte_at.result c.byte_at-2.result (omega arith), omega arith)
