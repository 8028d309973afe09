use Rattle.runs.proofs.Steps.{waits_now}
use Rattle.runs.proofs.Buffer.tried.Goals as goal

pub returns : goal.returns
returns c = waits_now c.args.self.now _ _ c.requires
