-- `decls::rows::earlier` meets its contract.
-- Assumes nothing.
use Rattle.words.specs.Runs.{part}
use Prim.Native.Nat.{◌-◌}
use lib.ListN.{length}
use Rattle.decls.proofs.Entering.{Seeking}
use Rattle.decls.proofs.rows.earlier.Given as goal

abbrev pub invariant-loop-from : goal.invariant-loop-from
invariant-loop-from l = Seeking l.s l.first l.to (part l.s l.a l.b) l.from

abbrev pub decreases-loop-from : goal.decreases-loop-from
decreases-loop-from l = length l.s - l.from
