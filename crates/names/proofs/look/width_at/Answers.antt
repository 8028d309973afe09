-- `names::look::width_at` meets its contract.
-- Assumes nothing.
use Rattle.names.proofs.Laws.{width-found, width_none}
use Rattle.names.proofs.look.width_at.Goals as goal

pub returns-in-Found : goal.returns-in-Found
returns-in-Found c = width-found c.next_word.ensures c.in-Found.is c.second.ensures

pub returns-in_default : goal.returns-in_default
returns-in_default c = width_none c.next_word.ensures c.in_default.not-Found
