-- `frames::list::word_of` meets its contract.
-- Assumes nothing.
use Rattle.frames.proofs.Listed.{lists-found, lists-stop, lists_over}
use Rattle.frames.proofs.list.word_of.Goals as goal

pub returns-in-Found : goal.returns-in-Found
returns-in-Found c = lists-found c.next_word.ensures c.in-Found.is

pub returns-in-Stops : goal.returns-in-Stops
returns-in-Stops c = rw c.no_word.ensures (lists-stop c.next_word.ensures c.in-Stops.is)

pub returns-in-Over : goal.returns-in-Over
returns-in-Over c = rw c.no_word-in-Over.ensures (lists_over c.next_word.ensures c.in-Over.is)
