use Rattle.std.proofs.Common.{arith}
use Rattle.clock.proofs.Laws.{starts_none, starts_first}
use Rattle.clock.proofs.start.Goals as goal

pub returns-then-n-gt0 : goal.returns-then-n-gt0
returns-then-n-gt0 c = starts_first _ _ (λ z. omega arith)

pub returns-else-n-gt0 : goal.returns-else-n-gt0
returns-else-n-gt0 c = starts_none _ _ (omega arith)
