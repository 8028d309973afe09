-- `sizes::expr`, `sizes::between` and `sizes::operand` meet their contracts: one law at each way on. 16 for each level left, and two for each strength above, fall with each call; the text left falls with each operator.
-- Assumes nothing.
use Prim.Native.Nat.{◌-◌, ◌*◌, ◌+◌}
use lib.ListN.{length}
use Rattle.tiers.proofs.Laws.{Going}
use Rattle.parts.specs.Beside.{beside}
use Rattle.sizes.specs.Counts.{CountsUnder}
use Rattle.sizes.proofs.+between_expr_operand.Given as goal

abbrev pub decreases-between : goal.decreases-between
decreases-between l = l.levels * 16 + 2 * (7 - l.tier)

abbrev pub decreases-expr : goal.decreases-expr
decreases-expr l = l.levels * 16 + 2 * (7 - l.tier) + 1

abbrev pub decreases-operand : goal.decreases-operand
decreases-operand l = l.levels * 16 + 2 * (7 - l.tier)

abbrev pub invariant-between-loop-u : goal.invariant-between-loop-u
invariant-between-loop-u l = Going l.s l.tier l.levels l.initial.left.word (CountsUnder l.s (beside l.t).names l.u l.initial.left) l.left.word (CountsUnder l.s (beside l.t).names l.u l.left)

abbrev pub decreases-between-loop-u : goal.decreases-between-loop-u
decreases-between-loop-u l = length l.s - l.left.word.place
