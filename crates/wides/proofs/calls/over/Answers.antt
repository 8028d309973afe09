-- `wides::calls::over` meets its contract: one law at each way on; the text left falls with each word.
-- Assumes nothing.
use mathlib.Core.Path.{sym, ◌∙◌}
use native.Mathlib.Omega.{arith}
use Rattle.wides.proofs.Laws.{further, passing-start, passing_over, passing-close, passing_on}
use Rattle.wides.proofs.calls.over.Goals as goal

pub loop-word-init : goal.loop-word-init
loop-word-init c = passing-start c.requires

pub returns-then-word-gt-ENDCOMPRESS : goal.returns-then-word-gt-ENDCOMPRESS
returns-then-word-gt-ENDCOMPRESS c = passing_over c.loop-word.invariant c.if-word-gt-ENDCOMPRESS.true

pub word_from-v-requires : goal.word_from-v-requires
word_from-v-requires c = (c.loop-word.invariant.near.short, c.loop-word.invariant.near.inside)

pub returns-then-closes : goal.returns-then-closes
returns-then-closes c = passing-close c.loop-word.invariant c.word_from-v.ensures (sym c.closes.ensures ∙ c.if-closes.true)

pub begun-count-requires : goal.begun-count-requires
begun-count-requires c =
    let g = c.loop-word.invariant in
    omega (arith, g.small, g.near.on, g.near.inside, g.near.short)

pub within-deep-requires : goal.within-deep-requires
within-deep-requires c =
    let g = c.loop-word.invariant in
    omega (arith, g.few, g.near.on, g.near.inside, g.near.short)

pub loop-word-smaller : goal.loop-word-smaller
loop-word-smaller c =
    let g = c.loop-word.invariant in
    omega (arith, further c.if-word-gt-ENDCOMPRESS.false g.near c.word_from-v.ensures, g.near.on, g.near.inside, c.word_from-v.ensures.near.on, c.word_from-v.ensures.near.inside)

pub loop-word-preserved : goal.loop-word-preserved
loop-word-preserved c =
    rw (c.begun-count.ensures, c.within-deep.ensures)
    (passing_on c.loop-word.invariant c.if-word-gt-ENDCOMPRESS.false c.word_from-v.ensures (sym c.closes.ensures ∙ c.if-closes.false))
