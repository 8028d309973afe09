use mathlib.Core.Path.{◌≡◌}
use Prim.Native.Nat.{◌-◌, ◌*◌, ◌+◌}
use lib.ListN.{length}
use Rattle.frames_law.specs.Frames.{told_at}
use Rattle.names.specs.Look.{look_in}
use Rattle.parts.specs.Beside.{beside}
use Rattle.frames.specs.Open.{BindsUnder}
use Rattle.exprs.proofs.Laws.{Going}
use Rattle.exprs.proofs.+between_expr_name_operand.Given as goal

-- `exprs::expr`, `exprs::between`, `exprs::operand` and `exprs::name` meet their contracts: one law at each way on. 1,024 for each open call, 16 for each level left, and two for each strength above, fall with each call; the text left falls with each operator.
-- Assumes nothing.
abbrev pub decreases-between : goal.decreases-between
decreases-between l = l.u.depth * 1024 + l.levels * 16 + 2 * (7 - l.tier)

abbrev pub decreases-expr : goal.decreases-expr
decreases-expr l = l.u.depth * 1024 + l.levels * 16 + 2 * (7 - l.tier) + 1

abbrev pub decreases-name : goal.decreases-name
decreases-name l = l.u.depth * 1024

abbrev pub decreases-operand : goal.decreases-operand
decreases-operand l = l.u.depth * 1024 + l.levels * 16 + 2 * (7 - l.tier)

abbrev pub invariant-between-loop-u : goal.invariant-between-loop-u
invariant-between-loop-u l = Going (look_in l.s (beside l.initial.t).names l.count) (told_at l.u.at) (BindsUnder l.s (beside l.initial.t).names l.u) l.s l.tier l.levels l.initial.left l.initial.t l.left l.t × (l.p ≡ l.left.word.place)

abbrev pub decreases-between-loop-u : goal.decreases-between-loop-u
decreases-between-loop-u l = length l.s - l.left.word.place
