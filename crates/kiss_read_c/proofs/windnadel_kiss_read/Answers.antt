-- `kiss_read_c::windnadel_kiss_read` meets its contract: a refused place is small.
-- Assumes nothing.
use Rattle.std.proofs.Common.{arith}
use Rattle.kiss_read.proofs.Short.{code_fits}
use Rattle.kiss_read_c.proofs.windnadel_kiss_read.Goals as goal

pub overflow_cast-refusal : goal.overflow_cast-refusal
overflow_cast-refusal c = let z = code_fits c.in-Err.ensures in omega (arith, z.1)
