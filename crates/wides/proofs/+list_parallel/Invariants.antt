-- `wides::list` and `wides::parallel` meet their contracts: one law at each way on. Two for each byte of the text left, and one for a parallel, fall with each call.
-- Assumes nothing.
use Prim.Native.Nat.{◌-◌, ◌*◌, ◌+◌}
use lib.ListN.{length}
use Rattle.parts.specs.Beside.{beside}
use Rattle.wides.proofs.Laws.{Listing, Branching}
use Rattle.wides.proofs.+list_parallel.Given as goal

abbrev pub decreases-list : goal.decreases-list
decreases-list l = 2 * (length l.s.now - l.first.place)

abbrev pub decreases-parallel : goal.decreases-parallel
decreases-parallel l = 2 * (length l.s.now - l.first.place) + 1

abbrev pub invariant-list-loop-word : goal.invariant-list-loop-word
invariant-list-loop-word l = Listing l.s (beside l.t).names l.n l.initial.word l.here l.word l.acts

abbrev pub decreases-list-loop-word : goal.decreases-list-loop-word
decreases-list-loop-word l = length l.s - l.word.place

abbrev pub invariant-parallel-loop-word : goal.invariant-parallel-loop-word
invariant-parallel-loop-word l = Branching l.s (beside l.t).names l.n l.here l.initial.at l.at l.sum

abbrev pub decreases-parallel-loop-word : goal.decreases-parallel-loop-word
decreases-parallel-loop-word l = length l.s - l.at.word.place
