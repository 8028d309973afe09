-- `allow::allowed` meets its contract: one law at each way on; the text left falls with each word.
-- Assumes nothing.
use Prim.Native.Nat.{◌-◌}
use lib.ListN.{length}
use Rattle.parts.specs.Beside.{beside}
use Rattle.allow.specs.Steps.{state_number}
use Rattle.allow.proofs.Laws.{Going}
use Rattle.allow.proofs.allowed.Given as goal

abbrev pub invariant-loop-word : goal.invariant-loop-word
invariant-loop-word l = Going l.s (beside l.t).names l.u l.initial.word l.word (state_number l.state) l.a l.b

abbrev pub decreases-loop-word : goal.decreases-loop-word
decreases-loop-word l = length l.s - l.word.place
