-- `written::finish` meets its contract.
-- Assumes nothing.
use mathlib.Core.Path.{refl}
use Rattle.written.proofs.Beside.{node_beside}
use Rattle.items.specs.Walk.{finished}
use Rattle.written.proofs.finish.Goals as goal

pub returns : goal.returns
unfolding finished
returns c = record { word = refl; kept = rw c.put_node.ensures (node_beside _ _ _ _ _ _ _ _ _); walks = rw (c.put_node.ensures, c.end_for-e.ensures) refl }
