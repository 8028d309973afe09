-- `hand::word_from` meets its contract.
-- Assumes nothing.
use Rattle.hand.proofs.Laws.{begins-word, begins_none}
use Rattle.words.proofs.Walk.{sound}
use native.Mathlib.Omega.{arith}
use Rattle.hand.proofs.word_from.Goals as goal

pub overflow_cast-result : goal.overflow_cast-result
overflow_cast-result c = omega (arith, sound c.next_word.ensures c.in-Found.is)

pub returns-in-Found : goal.returns-in-Found
returns-in-Found c = rw (← c.from.ensures) (begins-word c.requires.0 (omega arith) c.next_word.ensures c.in-Found.is)

pub returns-in_default : goal.returns-in_default
returns-in_default c = rw (← c.from.ensures) (begins_none c.requires.0 (omega arith) c.next_word.ensures c.in_default.not-Found)
