-- `decls::step::begin` meets its contract.
-- Assumes nothing.
use Rattle.decls.proofs.Laws.{begins-program}
use Rattle.decls.proofs.step.begin.Goals as goal

pub returns : goal.returns
returns c = begins-program c.word_from-p.ensures c.word_from-n.ensures c.word_from-c.ensures c.word_from.ensures c.opened.ensures
