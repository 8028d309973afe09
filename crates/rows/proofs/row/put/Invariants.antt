use Rattle.rows.specs.Area.{row_at}
use Rattle.rows.proofs.Rows.{Storing}
use Rattle.rows.proofs.row.put.Given as goal

abbrev pub invariant-loop-e : goal.invariant-loop-e
invariant-loop-e l = Storing l.initial.area (row_at l.i) l.fn.s.entries l.area l.e
