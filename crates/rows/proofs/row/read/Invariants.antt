use mathlib.Core.Path.{◌≡◌}
use lib.ListN.{length}
use Rattle.rows.specs.Area.{row_at}
use Rattle.rows.proofs.Rows.{Begun}
use Rattle.rows.proofs.row.read.Given as goal

abbrev pub invariant-loop-e : goal.invariant-loop-e
invariant-loop-e l = (length l.entries ≡ 8) × Begun l.area (row_at l.i) l.entries l.e
