-- `wides::body` meets its contract: the text left falls with each list.
-- Assumes nothing.
use native.Mathlib.Omega.{arith}
use Rattle.wides.proofs.Laws.{bodied_start, bodied_ends, bodied_forward, bodied_on}
use Rattle.wides.proofs.body.Goals as goal

pub list-at-requires : goal.list-at-requires
list-at-requires c = c.requires

pub loop-w-init : goal.loop-w-init
loop-w-init c = bodied_start c.list-at.ensures

pub returns-then-w-gt-ENDPARALLEL : goal.returns-then-w-gt-ENDPARALLEL
returns-then-w-gt-ENDPARALLEL c = bodied_ends c.loop-w.invariant c.list-at.ensures c.if-w-gt-ENDPARALLEL.true

pub word_from-requires : goal.word_from-requires
word_from-requires c = (c.loop-w.invariant.near.short, c.loop-w.invariant.near.inside)

pub list-at-requires-in-loop-w : goal.list-at-requires-in-loop-w
list-at-requires-in-loop-w c = c.word_from.ensures.near

pub loop-w-smaller : goal.loop-w-smaller
loop-w-smaller c = let f = bodied_forward c.loop-w.invariant c.word_from.ensures c.if-w-gt-ENDPARALLEL.false in omega (arith, f.own, f.room, c.list-at-in-loop-w.ensures.later)

pub loop-w-preserved : goal.loop-w-preserved
loop-w-preserved c = bodied_on c.loop-w.invariant c.word_from.ensures c.if-w-gt-ENDPARALLEL.false c.list-at-in-loop-w.ensures
