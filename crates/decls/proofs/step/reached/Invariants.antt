-- `decls::step::reached` meets its contract.
-- Assumes nothing.
use Prim.Native.Nat.{◌-◌}
use lib.ListN.{length}
use Rattle.decls.proofs.Laws.{Reaching}
use Rattle.decls.proofs.step.reached.Given as goal

abbrev pub invariant-loop-h : goal.invariant-loop-h
invariant-loop-h l = Reaching l.s l.initial.h l.h

abbrev pub decreases-loop-h : goal.decreases-loop-h
decreases-loop-h l = length l.s - l.h.place
