-- `sizes::single::name` meets its contract.
-- Assumes nothing.
use Rattle.sizes.proofs.Laws.{bit_under}
use Rattle.sizes.specs.declared.Extent.{Extent}
use Rattle.tiers.proofs.Laws.{bare_name, bare_bit}
use native.Mathlib.Omega.{arith}
use mathlib.Core.Path.{refl, ap}
use Rattle.sizes.proofs.single.name.Goals as goal

pub returns-then-after-ne-LEFT : goal.returns-then-after-ne-LEFT
returns-then-after-ne-LEFT c = bare_name c.requires c.word_from-after.ensures refl c.if-after-ne-LEFT.true c.named.ensures.0 c.named.ensures.1

pub returns : goal.returns
returns c = bare_bit c.requires c.word_from-after.ensures (λ z. omega arith) (λ z. omega arith) (λ z. omega arith) (omega arith) c.if-after-ne-LEFT.false c.word_from-number.ensures c.word_from-close.ensures c.word_from.ensures (ap (λ (x : Extent). x.word) c.leaf.ensures) (bit_under c.leaf.ensures)
