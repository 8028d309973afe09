-- `controller::open_here` meets its contract: what it answers, and what the record is by `moved`.
-- Assumes nothing.
use Rattle.controller.proofs.Told.{took}
use Rattle.controller.proofs.open_here.Goals as goal

pub returns : goal.returns
returns c = took c.start-r.result c.start-r.ensures c.moved.ensures
