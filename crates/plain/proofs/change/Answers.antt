-- `plain::change` meets its contract.
-- Assumes nothing.
use Rattle.parts.specs.Beside.{beside}
use Rattle.plain.proofs.Laws.{change-whole, change-part}
use Rattle.plain.proofs.change.Goals as goal

pub changed-requires : goal.changed-requires
unfolding beside
changed-requires c =
    c.requires.2.listed

pub returns-then-after-ne-LEFT : goal.returns-then-after-ne-LEFT
returns-then-after-ne-LEFT c =
    λ l b. change-whole c.requires.2.near c.told-p.ensures c.begun-m.ensures c.word_from-open.ensures c.meant-v.result c.word_from-name.ensures c.told-q.ensures c.meant-v.ensures c.word_from-after.ensures c.word_from-second.ensures c.requires.0 c.requires.1 c.if-after-ne-LEFT.true c.whole_of-g.ensures c.changed.ensures

pub changed-requires-2 : goal.changed-requires-2
unfolding beside
changed-requires-2 c =
    c.requires.2.listed

pub returns : goal.returns
returns c =
    λ l b. change-part c.requires.2.near c.told-p.ensures c.begun-m.ensures c.word_from-open.ensures c.meant-v.result c.word_from-name.ensures c.told-q.ensures c.meant-v.ensures c.word_from-after.ensures c.word_from-second.ensures c.requires.0 c.requires.1 c.if-after-ne-LEFT.false c.word_from-close.ensures c.word_from-last.ensures c.word_from-next.ensures c.part_of-g.ensures c.changed-2.ensures
