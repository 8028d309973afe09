-- `grammar::word_from` meets its contract: one law of the walk for each answer of the scanner.
-- Assumes nothing.
use mathlib.Core.Path.{refl}
use Rattle.grammar.proofs.Along.{at_word, at_end_lem, at_stop}
use Rattle.grammar.proofs.word_from.Goals as goal

pub returns-in-Found : goal.returns-in-Found
returns-in-Found c =
    (at_word c.requires c.next_word.ensures c.in-Found.is, refl)

pub returns-in-Stops : goal.returns-in-Stops
returns-in-Stops c =
    (at_stop c.requires c.next_word.ensures c.in-Stops.is, refl)

pub returns-in-Over : goal.returns-in-Over
returns-in-Over c =
    (at_end_lem c.requires c.next_word.ensures c.in-Over.is, refl)
