-- `sizes::single::named` meets its contract.
-- Assumes nothing.
use Rattle.sizes.proofs.Laws.{name_under, formal_under_lem}
use Rattle.sizes.specs.declared.Extent.{Extent}
use mathlib.Core.Path.{ap}
use Rattle.sizes.proofs.single.named.Goals as goal

pub returns-in-None : goal.returns-in-None
returns-in-None c = (ap (λ (x : Extent). x.word) c.leaf.ensures, name_under c.in-None.ensures c.leaf.ensures)

pub returns-in-Some : goal.returns-in-Some
returns-in-Some c = (ap (λ (x : Extent). x.word) c.formal-in-Some.ensures, formal_under_lem c.in-Some.ensures c.sizes.ensures c.formal-in-Some.ensures)
