-- `written::branched` meets its contract.
-- Assumes nothing.
use mathlib.Core.Path.{refl}
use Rattle.written.proofs.Beside.{branch_beside}
use Rattle.items.specs.Walk.{branched}
use Rattle.written.proofs.branched.Goals as goal

pub returns : goal.returns
unfolding branched
returns c =
    record { word = refl; kept = rw c.put_branch.ensures (branch_beside _ _ _ _); walks = rw (c.put_branch.ensures, c.with_acts.ensures, c.summed.ensures) refl }
