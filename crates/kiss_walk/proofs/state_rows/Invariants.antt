-- `kiss_walk::state_rows` meets its contract. The loop's invariant: the walk stands before the row of an input.
-- Assumes nothing.
use Rattle.kiss_walk.specs.Walk.{Stands, in_form}
use Rattle.kiss_walk.proofs.state_rows.Given as goal

abbrev pub invariant-loop-input : goal.invariant-loop-input
invariant-loop-input l = Stands l.text (in_form l.z.inputs l.z.outputs l.z.states l.state l.first.value l.input) l.end
