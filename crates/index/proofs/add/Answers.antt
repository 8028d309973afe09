use Rattle.index.proofs.Walks.{added}
use Rattle.index.proofs.add.Goals as goal

pub returns : goal.returns
returns c = let p = c.requires in added p.0 p.1 p.2 c.put_half.ensures.0 c.put_half.ensures.1 c.put.ensures.0 c.put.ensures.1
