use native.Mathlib.Omega.{arith}
use Rattle.runs.proofs.Steps.{then_put}
use Rattle.runs.proofs.Buffer.then_at.Goals as goal

pub returns-in-Waits : goal.returns-in-Waits
returns-in-Waits c = λ x q H. rw c.put.ensures (then_put H c.args.b c.args.m c.args.e c.in-Waits.is (omega arith))
