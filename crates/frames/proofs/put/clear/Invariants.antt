-- `frames::put::clear` meets its contract.
-- Assumes nothing.
use Rattle.frames.proofs.Putting.{Wiping}
use Rattle.frames.proofs.put.clear.Given as goal

abbrev pub invariant-loop-i : goal.invariant-loop-i
invariant-loop-i l = Wiping l.from l.to l.initial.t l.t l.i
