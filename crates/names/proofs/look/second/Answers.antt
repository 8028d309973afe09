-- `names::look::second` meets its contract.
-- Assumes nothing.
use Rattle.std.proofs.Common.{arith}
use Rattle.names.proofs.Laws.{second-found, second_none}
use Rattle.words.proofs.Walk.{sound}
use Rattle.names.proofs.look.second.Goals as goal

pub overflow_cast-result : goal.overflow_cast-result
overflow_cast-result c = omega (arith, sound c.next_word.ensures c.in-Found.is)

pub returns-in-Found : goal.returns-in-Found
returns-in-Found c = second-found c.next_word.ensures c.in-Found.is

pub returns-in_default : goal.returns-in_default
returns-in_default c = second_none c.next_word.ensures c.in_default.not-Found
