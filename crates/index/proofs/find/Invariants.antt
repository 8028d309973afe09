use Prim.Native.Nat.{◌-◌}
use Rattle.index.proofs.Walks.{Walked}
use Rattle.index.proofs.find.Given as goal

abbrev pub invariant-loop-v : goal.invariant-loop-v
invariant-loop-v l = Walked l.area l.n l.s l.j l.v

abbrev pub decreases-loop-v : goal.decreases-loop-v
decreases-loop-v l = 1280 - l.j
