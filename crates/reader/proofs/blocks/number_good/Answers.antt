-- `reader::blocks::number_good` meets its contract: number, then total.
-- Assumes nothing.
use Rattle.std.proofs.Common.{arith, tests}
use Rattle.file_law.specs.Reading.{number_good}
use Rattle.reader.proofs.blocks.number_good.Goals as goal

pub returns-then-word-n : goal.returns-then-word-n
unfolding number_good
returns-then-word-n c = grind (arith, tests)

pub returns-else-word-n : goal.returns-else-word-n
unfolding number_good
returns-else-word-n c = grind (arith, tests)
