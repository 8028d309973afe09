-- `decls::rows::formals` meets its contract.
-- Assumes nothing.
use Prim.Native.Nat.{◌-◌}
use lib.ListN.{length}
use Rattle.decls.proofs.Entering.{Noting}
use Rattle.decls.proofs.rows.formals.Given as goal

abbrev pub invariant-loop-w : goal.invariant-loop-w
invariant-loop-w l = Noting l.s l.t l.names l.n l.first l.old l.from l.six

abbrev pub decreases-loop-w : goal.decreases-loop-w
decreases-loop-w l = length l.s - l.from
