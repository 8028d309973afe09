-- `wides::fill` meets its contract: a row more is filled in with each round.
-- Assumes nothing.
use Rattle.wides.specs.Fill.{FilledBehind}
use Rattle.wides.proofs.fill.Given as goal

abbrev pub invariant-loop-i : goal.invariant-loop-i
invariant-loop-i l = FilledBehind l.s l.initial.t l.t l.i
