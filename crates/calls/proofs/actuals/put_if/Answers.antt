-- `calls::actuals::put_if` meets its contract.
-- Assumes nothing.
use Rattle.frames.proofs.Putting.{puts_none}
use borrow.Author.Tests.{lt-ltb, le-ltb}
use Rattle.calls.specs.Hands.{hand_in}
use Rattle.calls.proofs.actuals.put_if.Goals as goal

pub returns-then-i-room : goal.returns-then-i-room
unfolding hand_in
returns-then-i-room c = rw (lt-ltb c.args.i c.args.room c.if-i-room.true) c.put_actual.ensures

pub returns-else-i-room : goal.returns-else-i-room
unfolding hand_in
returns-else-i-room c = rw (le-ltb c.args.i c.args.room c.if-i-room.false) (puts_none c.args.t.now)
