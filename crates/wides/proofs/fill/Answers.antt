-- `wides::fill` meets its contract: a row more is filled in with each round.
-- Assumes nothing.
use native.Mathlib.Omega.{arith}
use Rattle.wides.proofs.Filling.{filling_start, filling_on, filling_over}
use Rattle.wides.proofs.fill.Goals as goal

pub loop-i-init : goal.loop-i-init
loop-i-init c = filling_start

pub loop-i-preserved : goal.loop-i-preserved
loop-i-preserved c = filling_on c.loop-i.invariant c.wide_of-x.ensures c.put_wide.ensures (omega arith) c.requires.1

pub returns : goal.returns
returns c = filling_over c.loop-i.invariant (omega arith) (omega arith)
