-- `decls::outputs` meets its contract.
-- Assumes nothing.
use Rattle.decls.proofs.Loops.{Counting}
use lib.ListN.{length}
use Prim.Native.Nat.{◌-◌}
use Rattle.decls.proofs.outputs.Given as goal

abbrev pub invariant-loop-at : goal.invariant-loop-at
invariant-loop-at l = Counting l.s l.initial.at l.at l.n

abbrev pub decreases-loop-at : goal.decreases-loop-at
decreases-loop-at l = length l.s - l.at.word.place
