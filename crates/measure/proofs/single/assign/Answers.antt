-- `measure::single::assign` meets its contract.
-- Assumes nothing.
use Rattle.measure.proofs.Laws.{assign-came}
use Rattle.measure.proofs.single.assign.Goals as goal

pub returns : goal.returns
returns c = assign-came c.requires.0.near c.requires.1 c.requires.2 c.word_from-third.ensures c.sized-g.ensures c.begun.ensures c.term.ensures c.made.ensures
