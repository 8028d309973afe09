-- `wides::body` meets its contract: the text left falls with each list.
-- Assumes nothing.
use Prim.Native.Nat.{◌-◌}
use lib.ListN.{length}
use Rattle.parts.specs.Beside.{beside}
use Rattle.wides.proofs.Laws.{Bodied}
use Rattle.wides.proofs.body.Given as goal

abbrev pub invariant-loop-w : goal.invariant-loop-w
invariant-loop-w l = Bodied l.s (beside l.t).names l.n l.initial.at l.at

abbrev pub decreases-loop-w : goal.decreases-loop-w
decreases-loop-w l = length l.s - l.at.word.place
