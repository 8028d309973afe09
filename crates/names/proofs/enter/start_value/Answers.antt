-- `names::enter::start_value` meets its contract.
-- Assumes nothing.
use Rattle.std.proofs.Common.{arith}
use Rattle.names.proofs.Small.{product_fits}
use Rattle.names.proofs.enter.start_value.Goals as goal

pub overflow_cast-result : goal.overflow_cast-result
overflow_cast-result c = let a = c.args in rw (c.pow.ensures, c.pow-2.ensures, c.from.ensures, c.from-bits.ensures, c.from-low.ensures) (omega (arith, product_fits a.v a.w a.at (omega arith)))
