-- `kiss_read::read` meets its contract: what the walk refuses is refused, what it accepts is read.
-- Assumes nothing.
use Rattle.kiss_law.specs.Kiss as kiss
use Rattle.kiss_read.proofs.read.Goals as goal

pub returns-in-Err : goal.returns-in-Err
returns-in-Err c = kiss.KissReads.fifteen c.in-Err.ensures
