-- `frames::put::put_byte` meets its contract.
-- Assumes nothing.
use Rattle.frames.proofs.Putting.{put-here, put-past}
use native.Mathlib.Omega.{arith}
use Rattle.frames.proofs.put.put_byte.Goals as goal

pub returns-then-i-t : goal.returns-then-i-t
returns-then-i-t c = put-here c.args.t.now c.args.o c.args.x

pub returns-else-i-t : goal.returns-else-i-t
returns-else-i-t c = put-past c.args.t.now c.args.o c.args.x (omega arith)
