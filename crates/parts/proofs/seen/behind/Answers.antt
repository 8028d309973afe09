-- `parts::seen::behind` meets its contract.
-- Assumes nothing.
use Rattle.parts.proofs.Beside.{whole-rest}
use Rattle.parts.proofs.seen.behind.Goals as goal

pub returns : goal.returns
returns c = rw (whole-rest c.args.at c.args.t.now) at c.find.ensures
