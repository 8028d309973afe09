-- `measure::single::test` meets its contract.
-- Assumes nothing.
use Rattle.measure.proofs.Laws.{test-came}
use Rattle.measure.proofs.single.test.Goals as goal

pub returns : goal.returns
returns c = test-came c.sized-g.ensures c.word_from.ensures c.term.ensures c.made.ensures
