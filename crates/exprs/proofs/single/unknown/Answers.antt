-- `exprs::single::unknown` meets its contract.
-- Assumes nothing.
use Rattle.words.specs.Runs.{part}
use Rattle.exprs.proofs.single.unknown.Goals as goal

pub returns : goal.returns
unfolding part
returns c = (c.named.ensures.0, rw c.find-v.ensures at c.named.ensures.1)
