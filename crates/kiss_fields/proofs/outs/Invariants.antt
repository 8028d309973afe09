-- `kiss_fields::outs` meets its contract. The loop's invariant: the bits of a word stand here.
-- Assumes nothing.
use Rattle.kiss_fields.proofs.Taking.{BitsSo}
use Prim.Native.Nat.{◌+◌}
use Rattle.kiss_fields.proofs.outs.Given as goal

abbrev pub invariant-loop-j : goal.invariant-loop-j
invariant-loop-j l = BitsSo l.text l.at l.j l.word (l.at + l.j)
