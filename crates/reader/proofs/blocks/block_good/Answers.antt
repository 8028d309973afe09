-- `reader::blocks::block_good` meets its contract: number and total, then check.
-- Assumes nothing.
use Rattle.std.proofs.Common.{arith}
use Rattle.file_law.specs.Reading.{block_good}
use Rattle.reader.proofs.blocks.block_good.Goals as goal

pub returns-then-number_good : goal.returns-then-number_good
unfolding block_good
returns-then-number_good c = grind arith

pub returns-else-number_good : goal.returns-else-number_good
unfolding block_good
returns-else-number_good c = grind arith
