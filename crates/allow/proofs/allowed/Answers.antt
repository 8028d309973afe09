-- `allow::allowed` meets its contract: one law at each way on; the text left falls with each word.
-- Assumes nothing.
use native.Mathlib.Omega.{arith}
use Rattle.allow.proofs.Laws.{begun, words-end, refused, all_allowed, only_last, goes_further}
use mathlib.Core.Path.{ap}
use Rattle.allow.specs.Steps.{sort_number}
use Rattle.allow.proofs.allowed.Goals as goal

pub loop-word-init : goal.loop-word-init
loop-word-init c = begun c.requires

pub returns-then-word-gt-ENDCOMPRESS : goal.returns-then-word-gt-ENDCOMPRESS
returns-then-word-gt-ENDCOMPRESS c = words-end c.loop-word.invariant c.if-word-gt-ENDCOMPRESS.true

pub returns-then-not-fits : goal.returns-then-not-fits
returns-then-not-fits c = refused c.loop-word.invariant c.sort_of-sort.ensures c.asked.ensures c.fits.ensures (c.if-not-fits.true)

pub returns-in-Last : goal.returns-in-Last
returns-in-Last c = all_allowed c.loop-word.invariant c.sort_of-sort.ensures c.asked.ensures c.fits.ensures (c.if-not-fits.false) (ap sort_number c.in-Last.is)

pub loop-word-smaller : goal.loop-word-smaller
loop-word-smaller c = omega (arith, c.loop-word.invariant.near.more (omega (arith, c.if-word-gt-ENDCOMPRESS.false)), c.loop-word.invariant.near.inside, c.word_from-word.ensures.later)

pub loop-word-preserved : goal.loop-word-preserved
loop-word-preserved c = rw c.next-state.ensures (goes_further c.loop-word.invariant c.sort_of-sort.ensures c.asked.ensures c.fits.ensures (c.if-not-fits.false) c.if-word-gt-ENDCOMPRESS.false (only_last c.sort_of-sort.result c.in_default.not-Last) c.word_from-word.ensures)
