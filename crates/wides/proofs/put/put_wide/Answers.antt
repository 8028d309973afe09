-- `wides::put::put_wide` meets its contract.
-- Assumes nothing.
use Rattle.wides.proofs.Filling.{row_here, row-past}
use Rattle.wides.proofs.put.put_wide.Goals as goal

pub returns-then-j-t : goal.returns-then-j-t
returns-then-j-t c = rw c.from.ensures (row_here c.args.t.now c.args.i c.args.x c.requires)

pub returns-else-j-t : goal.returns-else-j-t
returns-else-j-t c = row-past c.args.t.now c.args.i c.args.x c.requires (rw c.from.ensures at c.if-j-t.false)
