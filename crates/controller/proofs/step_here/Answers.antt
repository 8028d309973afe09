-- `controller::step_here` meets its contract: what it answers, and what the record is by `moved`.
-- Assumes nothing.
use Rattle.controller.proofs.Told.{took}
use Rattle.controller.proofs.step_here.Goals as goal

pub returns : goal.returns
returns c = took c.step-r.result c.step-r.ensures c.moved.ensures
