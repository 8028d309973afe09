-- `wides::calls::over` meets its contract: one law at each way on; the text left falls with each word.
-- Assumes nothing.
use Prim.Native.Nat.{◌-◌}
use lib.ListN.{length}
use Rattle.wides.proofs.Laws.{Passing}
use Rattle.wides.proofs.calls.over.Given as goal

abbrev pub invariant-loop-word : goal.invariant-loop-word
invariant-loop-word l = Passing l.s l.initial.word l.word l.deep l.count

abbrev pub decreases-loop-word : goal.decreases-loop-word
decreases-loop-word l = length l.s - l.word.place
