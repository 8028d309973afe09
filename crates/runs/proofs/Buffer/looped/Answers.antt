use Rattle.runs.proofs.Steps.{looped_waits, looped-again}
use Rattle.runs.proofs.Buffer.looped.Goals as goal

pub returns-in-Waits : goal.returns-in-Waits
returns-in-Waits c = λ x q H. rw c.put.ensures (looped_waits H c.args.b c.args.n c.in-Waits.is)

pub returns-in-Finished : goal.returns-in-Finished
returns-in-Finished c = λ x q H. rw c.put-in-Finished.ensures (looped-again H c.args.b c.args.n c.in-Finished.is (c.tried.ensures c.args.b))
