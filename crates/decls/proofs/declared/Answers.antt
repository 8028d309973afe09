-- `decls::declared` meets its contract.
-- Assumes nothing.
use Rattle.decls.proofs.Loops.{declared-came}
use Rattle.decls.proofs.declared.Goals as goal

pub returns : goal.returns
returns c = declared-came c.begin-first.ensures c.outputs-low.ensures c.start_marks.ensures.0 c.enter_all.ensures
