use Rattle.rows.proofs.Nexts.{next-put}
use Rattle.rows.proofs.next.put.Goals as goal

pub returns : goal.returns
returns c = let a = c.args in next-put a.area.now a.i a.x a.v c.requires.0 c.requires.1
