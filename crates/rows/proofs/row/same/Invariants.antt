use Rattle.rows.specs.Area.{row_at}
use Rattle.rows.proofs.Rows.{Begun}
use Rattle.rows.proofs.row.same.Given as goal

abbrev pub invariant-loop-e : goal.invariant-loop-e
invariant-loop-e l = Begun l.area (row_at l.i) l.fn.s.entries l.e
