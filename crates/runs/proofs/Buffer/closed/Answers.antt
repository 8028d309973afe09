use Rattle.runs.proofs.Steps.{tries-set}
use Rattle.runs.proofs.Buffer.closed.Goals as goal

pub returns : goal.returns
returns c = tries-set c.args.self.now _ _ c.requires c.args.h
