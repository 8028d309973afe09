-- `kiss_fields::size` meets its contract. The loop's invariant: the best of the lines before a is known, and none of them stands here.
-- Assumes nothing.
use Rattle.kiss_fields.specs.Took.{Nearest}
use Prim.Native.Nat.{ℕ, ◌+◌, ◌*◌}
use lib.ListN.{drop}
use Rattle.kiss_law.specs.Text.{size_line}
use Rattle.kiss_fields.proofs.size.Given as goal

abbrev pub invariant-loop-a : goal.invariant-loop-a
invariant-loop-a l = Nearest l.a l.most (λ (b : ℕ). size_line l.letter ((b + 1) * l.unit)) (drop l.at l.text) l.best
