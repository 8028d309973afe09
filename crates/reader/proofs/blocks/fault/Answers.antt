-- `reader::blocks::fault` meets its contract: number and total before the check.
-- Assumes nothing.
use Rattle.std.proofs.Common.{arith}
use Rattle.file_law.specs.Reading.{block_fault}
use Rattle.reader.proofs.blocks.fault.Goals as goal

pub returns-then-number_good : goal.returns-then-number_good
unfolding block_fault
returns-then-number_good c = grind arith

pub returns-else-number_good : goal.returns-else-number_good
unfolding block_fault
returns-else-number_good c = grind arith
