use Rattle.waits.proofs.Laws.{bit_shifted}
use Rattle.waits.proofs.set_bit.Goals as goal

pub returns-then-on : goal.returns-then-on
returns-then-on c = λ b. rw c.if-on.true (rw (bit_shifted _ c.requires.1) at (c.tried.ensures b))

pub returns-else-on : goal.returns-else-on
returns-else-on c = λ b. rw c.if-on.false (rw (bit_shifted _ c.requires.1) at (c.tried-else-on.ensures b))
