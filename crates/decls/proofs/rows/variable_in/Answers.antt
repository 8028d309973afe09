-- `decls::rows::variable_in` meets its contract.
-- Assumes nothing.
use Rattle.decls.proofs.Entering.{variable-came}
use Rattle.decls.proofs.rows.variable_in.Goals as goal

pub returns : goal.returns
returns c = variable-came c.called-clash.ensures c.entered-k.ensures c.place_if.ensures c.with_six.ensures
