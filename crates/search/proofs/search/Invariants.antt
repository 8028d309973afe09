use Prim.Native.Nat.{◌-◌}
use mathlib.Core.Path.{◌≡◌}
use lib.ListN.{length}
use Rattle.search.specs.Machine.{machine_in}
use Rattle.search.specs.Going.{Going}
use Rattle.search.proofs.search.Given as goal

abbrev pub invariant-loop-i : goal.invariant-loop-i
invariant-loop-i l = Going (machine_in l.tree l.task) l.task.room l.area l.n l.i 0 × (length l.area ≡ length l.initial.area)

abbrev pub decreases-loop-i : goal.decreases-loop-i
decreases-loop-i l = l.task.room - l.i
