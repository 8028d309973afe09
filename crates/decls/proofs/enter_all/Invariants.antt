-- `decls::enter_all` meets its contract.
-- Assumes nothing.
use Prim.Native.Nat.{◌-◌}
use lib.ListN.{length}
use Rattle.decls.proofs.Loops.{Going}
use Rattle.decls.proofs.enter_all.Given as goal

abbrev pub invariant-loop-at : goal.invariant-loop-at
invariant-loop-at l = Going l.s l.initial.at l.initial.m l.initial.t l.at l.m l.n l.t

abbrev pub decreases-loop-at : goal.decreases-loop-at
decreases-loop-at l = length l.s - l.at.word.place
