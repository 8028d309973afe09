-- `exprs::single::truth` meets its contract.
-- Assumes nothing.
use mathlib.Core.Path.{refl}
use Rattle.exprs.proofs.Laws.{plain_true, plain_false}
use Rattle.exprs.proofs.single.truth.Goals as goal

pub returns-then-value : goal.returns-then-value
returns-then-value c = λ count. plain_true c.requires c.word_from-after.ensures (rw c.if-value.true refl) c.leaf.ensures.0 (rw c.told-p.ensures at c.leaf.ensures.1)

pub returns-else-value : goal.returns-else-value
returns-else-value c = λ count. plain_false c.requires c.word_from-after.ensures (rw c.if-value.false refl) c.leaf-else-value.ensures.0 (rw c.told-p.ensures at c.leaf-else-value.ensures.1)
