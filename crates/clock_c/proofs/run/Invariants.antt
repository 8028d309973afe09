-- `clock_c::run` meets its contract: the struct in hand holds the state after the inputs so far.
-- Assumes nothing.
use Rattle.clock_c.proofs.Laws.{Stands}
use Rattle.clock_c.proofs.run.Given as goal

abbrev pub invariant-loop-x : goal.invariant-loop-x
invariant-loop-x l = Stands l.tree l.n l.left l.word l.inputs l.s l.x-index
