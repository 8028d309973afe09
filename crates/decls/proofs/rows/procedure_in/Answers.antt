-- `decls::rows::procedure_in` meets its contract.
-- Assumes nothing.
use Rattle.decls.proofs.Entering.{procedure-came}
use Rattle.decls.proofs.rows.procedure_in.Goals as goal

pub returns : goal.returns
returns c = procedure-came c.known-again.ensures c.place_if-six.ensures c.length_of.ensures c.put_entry.ensures c.word_from-o.ensures c.formals.ensures c.with_six.ensures
