-- `plain::stays::passing` meets its contract.
-- Assumes nothing.
use Rattle.plain.proofs.Staying.{Idling}
use Rattle.plain.proofs.stays.passing.Given as goal

abbrev pub invariant-loop-j : goal.invariant-loop-j
invariant-loop-j l = Idling l.p l.acts l.initial.at l.initial.t l.j l.at l.t
