use borrow.Author.Tests.{eq-eqb, ne_eqb}
use Rattle.resume.proofs.shape_from.Goals as goal

pub returns-then-m-i : goal.returns-then-m-i
returns-then-m-i c = rw (eq-eqb _ _ c.if-m-i.true, c.head_shape.ensures, c.shape_at.ensures)

pub returns-else-m-i : goal.returns-else-m-i
returns-else-m-i c = rw (ne_eqb _ _ c.if-m-i.false) c.shape_at-else-m-i.ensures
