-- `exprs::single::number` meets its contract.
-- Assumes nothing.
use mathlib.Core.Path.{refl}
use Rattle.exprs.proofs.Laws.{plain_number}
use Rattle.exprs.proofs.single.number.Goals as goal

pub returns : goal.returns
returns c = λ count. plain_number c.requires c.word_from-after.ensures refl c.leaf.ensures.0 (rw (c.told-p.ensures, c.from.ensures) at c.leaf.ensures.1)
