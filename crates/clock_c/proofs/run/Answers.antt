-- `clock_c::run` meets its contract.
-- Assumes nothing.
use Rattle.std.proofs.Common.{rules}
use Rattle.clock_c.proofs.Laws.{stands-first, stands-next, stands-last}
use Rattle.clock_c.proofs.run.Goals as goal

pub loop-x-init : goal.loop-x-init
loop-x-init c = stands-first c.requires.fuel c.start-s.ensures

pub loop-x-preserved : goal.loop-x-preserved
loop-x-preserved c = stands-next c.loop-x.invariant c.six_bits.ensures c.step.ensures

pub returns : goal.returns
returns c = stands-last c.loop-x.invariant (search rules)
