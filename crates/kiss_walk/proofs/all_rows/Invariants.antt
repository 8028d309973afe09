-- `kiss_walk::all_rows` meets its contract. The loop's invariant: the walk stands before the rows of a state.
-- Assumes nothing.
use Rattle.kiss_walk.specs.Walk.{Stands, rows_form}
use Rattle.kiss_walk.proofs.all_rows.Given as goal

abbrev pub invariant-loop-state : goal.invariant-loop-state
invariant-loop-state l = Stands l.text (rows_form l.z.inputs l.z.outputs l.z.states l.state) l.end
