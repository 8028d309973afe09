-- `calls::actuals::hand_over` meets its contract.
-- Assumes nothing.
use Rattle.calls.proofs.Handing.{Going}
use lib.ListN.{length}
use Prim.Native.Nat.{◌-◌}
use Rattle.calls.proofs.actuals.hand_over.Given as goal

abbrev pub invariant-loop-u : goal.invariant-loop-u
invariant-loop-u l = Going l.s l.initial.t l.u l.from l.room l.t l.at l.i

abbrev pub decreases-loop-u : goal.decreases-loop-u
decreases-loop-u l = length l.s - l.at
