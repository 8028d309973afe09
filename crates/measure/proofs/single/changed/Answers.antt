-- `measure::single::changed` meets its contract.
-- Assumes nothing.
use Rattle.measure.proofs.Laws.{past-name, past-bit}
use Rattle.measure.proofs.single.changed.Goals as goal

pub returns-then-after-ne-LEFT : goal.returns-then-after-ne-LEFT
returns-then-after-ne-LEFT c = past-name c.requires c.word_from-open.ensures c.word_from-name.ensures c.word_from-after.ensures c.word_from-second.ensures c.if-after-ne-LEFT.true

pub returns : goal.returns
returns c = past-bit c.requires c.word_from-open.ensures c.word_from-name.ensures c.word_from-after.ensures c.word_from-second.ensures c.if-after-ne-LEFT.false c.word_from-close.ensures c.word_from-last.ensures c.word_from.ensures
