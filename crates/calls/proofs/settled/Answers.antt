-- `calls::settled` meets its contract.
-- Assumes nothing.
use Rattle.calls.proofs.Entering.{settled_ok, settled_not}
use Rattle.calls.proofs.settled.Goals as goal

pub returns-then-allowed : goal.returns-then-allowed
returns-then-allowed c = settled_ok c.put_frame.ensures c.allowed.ensures c.if-allowed.true

pub returns : goal.returns
returns c = settled_not c.put_frame.ensures c.allowed.ensures c.if-allowed.false c.clear.ensures
