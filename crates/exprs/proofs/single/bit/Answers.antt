-- `exprs::single::bit` meets its contract.
-- Assumes nothing.
use mathlib.Core.Path.{refl}
use mathlib.Core.Logic.{inl, inr}
use Rattle.parts.specs.Beside.{beside}
use Rattle.exprs.proofs.Laws.{plain_bit, plain_bit_of_bit, plain_bit_of_none}
use Rattle.exprs.proofs.single.bit.Goals as goal

pub find-v-requires : goal.find-v-requires
unfolding beside
find-v-requires c = c.requires.0.listed

pub returns-in-Name : goal.returns-in-Name
returns-in-Name c = plain_bit c.requires.0.near c.requires.1 c.requires.2 c.word_from-number.ensures c.word_from-close.ensures c.word_from-last.ensures c.meant.result c.meant.ensures c.in-Name.is c.find-v.ensures c.indexed.ensures.0 (rw c.told.ensures at c.indexed.ensures.1)

pub unknown-requires : goal.unknown-requires
unfolding beside
unknown-requires c = c.requires.0.listed

pub returns-in-Bit : goal.returns-in-Bit
returns-in-Bit c =
    elim c.in-Bit.is [
      | inl h ↦ plain_bit_of_bit c.requires.0.near c.requires.1 c.requires.2 c.word_from-number.ensures c.word_from-close.ensures c.word_from-last.ensures c.meant.result c.meant.ensures h.3 refl c.unknown.ensures.0 (rw c.told-p.ensures at c.unknown.ensures.1)
      | inr e ↦ plain_bit_of_none c.requires.0.near c.requires.1 c.requires.2 c.word_from-number.ensures c.word_from-close.ensures c.word_from-last.ensures c.meant.result c.meant.ensures e refl c.unknown.ensures.0 (rw c.told-p.ensures at c.unknown.ensures.1)
    ]
