-- `frames::list::head_of` meets its contract.
-- Assumes nothing.
use Rattle.frames.proofs.Listed.{Passing}
use Rattle.frames.specs.Layout.{past_word, formals_at, most_formals, close_from}
use lib.ListN.{length}
use Prim.Native.Nat.{◌-◌}
use Rattle.frames.proofs.list.head_of.Given as goal

abbrev pub invariant-loop-i : goal.invariant-loop-i
invariant-loop-i l = Passing l.s 8192 l.from l.i (length (formals_at l.s l.p)) (close_from most_formals l.s (past_word l.s (past_word l.s l.p))) (8192 - l.i)
