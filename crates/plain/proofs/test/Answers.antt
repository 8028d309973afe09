-- `plain::test` meets its contract.
-- Assumes nothing.
use mathlib.Core.Path.{refl}
use Rattle.plain.proofs.Laws.{summed, test-came}
use Rattle.plain.proofs.test.Goals as goal

pub returns : goal.returns
returns c =
    test-came c.requires.near (summed c.expr-g.ensures) c.word_from-after.ensures c.tested-m.ensures refl
