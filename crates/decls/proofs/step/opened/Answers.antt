-- `decls::step::opened` meets its contract.
-- Assumes nothing.
use Rattle.decls.proofs.Laws.{opened-none, opened-list}
use Rattle.decls.proofs.step.opened.Goals as goal

pub returns-in-None : goal.returns-in-None
returns-in-None c = opened-none c.requires (rw c.in-None.is at c.list_of.ensures)

pub returns-in-Some : goal.returns-in-Some
returns-in-Some c = opened-list c.requires (rw c.in-Some.is at c.list_of.ensures) c.word_from.ensures
