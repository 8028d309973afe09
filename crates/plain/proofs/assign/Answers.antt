-- `plain::assign` meets its contract.
-- Assumes nothing.
use mathlib.Core.Path.{refl, ◌∙◌}
use native.Mathlib.Omega.{arith}
use Rattle.parts.specs.Beside.{beside}
use Rattle.parts.proofs.Beside.{same_size}
use Rattle.plain.proofs.Laws.{summed, plain_assign}
use Rattle.plain.proofs.assign.Goals as goal

pub find-v-requires : goal.find-v-requires
unfolding beside
find-v-requires c =
    omega (arith, c.requires.2.listed, same_size c.expr-x.ensures.kept)

pub shape_of-t : goal.shape_of-t
unfolding beside
shape_of-t c =
    same_size (c.finish.ensures.kept ∙ c.expr-x.ensures.kept)

pub returns : goal.returns
returns c =
    λ l b. plain_assign c.requires.2.near c.told-p.ensures c.begun-m.ensures c.requires.1 c.meant.result c.requires.2.few refl c.requires.0 c.meant.ensures c.name_of-to.ensures c.word_from-third.ensures (summed c.expr-x.ensures) (rw c.expr-x.ensures.kept at c.find-v.ensures) c.number_of-low.ensures c.width_of-width.ensures c.assigned-k.ensures (rw c.from.ensures at c.finish.ensures)
