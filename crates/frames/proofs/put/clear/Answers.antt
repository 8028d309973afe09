-- `frames::put::clear` meets its contract.
-- Assumes nothing.
use Rattle.frames.proofs.Putting.{wiping_on, wiping_over}
use native.Mathlib.Omega.{arith}
use Rattle.frames.proofs.put.clear.Goals as goal

pub loop-i-preserved : goal.loop-i-preserved
loop-i-preserved c = wiping_on c.args.from c.args.to c.args.t.now c.loop-i.t c.put_byte.new.t c.loop-i.i (omega arith) c.loop-i.invariant (rw c.from.ensures at c.put_byte.ensures)

pub returns : goal.returns
returns c = wiping_over c.args.from c.args.to c.args.t.now c.loop-i.t c.loop-i.i (omega arith) c.loop-i.invariant
