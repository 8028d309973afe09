-- `frames::find::sizes` meets its contract.
-- Assumes nothing.
use Rattle.frames.proofs.Formal.{sizes_of_lem}
use Rattle.parts.specs.Beside.{beside}
use Rattle.words.specs.Runs.{part}
use Rattle.frames.proofs.find.sizes.Goals as goal

pub returns : goal.returns
returns c = let a = c.args in sizes_of_lem a.s.now (beside a.t.now).names a.u (part a.s.now a.a a.b) c.index.result c.unwrap_or-i.result (record { parts = c.parts_at.result; levels = c.levels_at.result }) c.index.ensures c.unwrap_or-i.ensures (rw (c.from.ensures, c.from-2.ensures) at c.parts_at.ensures) (rw (c.from.ensures, c.from-2.ensures) at c.levels_at.ensures)
