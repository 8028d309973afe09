-- `wides::list` and `wides::parallel` meet their contracts: one law at each way on. Two for each byte of the text left, and one for a parallel, fall with each call.
-- Assumes nothing.
use mathlib.Core.Path.{sym, ◌∙◌}
use native.Mathlib.Omega.{arith}
use Rattle.wides.proofs.Laws.{listing_start, listing_ends, listing_forward, listing_parallel, listing_call, listing_word, branching_start, branching_forward, branching_ends, branching_stops, branching_on}
use Rattle.wides.proofs.+list_parallel.Goals as goal

pub list-loop-word-init : goal.list-loop-word-init
list-loop-word-init t c = listing_start c.requires

pub list-returns-then-ends : goal.list-returns-then-ends
list-returns-then-ends t c = listing_ends c.loop-word.invariant (sym c.ends.ensures ∙ c.if-ends.true)

pub list-word_from-v-requires : goal.list-word_from-v-requires
list-word_from-v-requires t c = (c.loop-word.invariant.near.short, c.loop-word.invariant.near.inside)

pub list-parallel-c-requires : goal.list-parallel-c-requires
list-parallel-c-requires t c = let f = listing_forward c.loop-word.invariant c.word_from-v.ensures (sym c.ends.ensures ∙ c.if-ends.false) in (omega (arith, c.decreases, f.whole, f.room, c.loop-word.invariant.later), c.word_from-v.ensures.near)

pub list-loop-word-smaller-then-word-eq-PARALLEL : goal.list-loop-word-smaller-then-word-eq-PARALLEL
list-loop-word-smaller-then-word-eq-PARALLEL t c = let f = listing_forward c.loop-word.invariant c.word_from-v.ensures (sym c.ends.ensures ∙ c.if-ends.false) in omega (arith, f.own, f.room, c.parallel-c.ensures.later)

pub list-loop-word-preserved-then-word-eq-PARALLEL : goal.list-loop-word-preserved-then-word-eq-PARALLEL
list-loop-word-preserved-then-word-eq-PARALLEL t c = listing_parallel c.loop-word.invariant c.word_from-v.ensures c.if-word-eq-PARALLEL.true c.parallel-c.ensures

pub list-word_from-requires : goal.list-word_from-requires
list-word_from-requires t c = (c.loop-word.invariant.near.short, c.word_from-v.ensures.near.inside)

pub list-over-p-requires : goal.list-over-p-requires
list-over-p-requires t c = c.word_from.ensures.near

pub list-loop-word-smaller-then-calls : goal.list-loop-word-smaller-then-calls
list-loop-word-smaller-then-calls t c = let f = listing_forward c.loop-word.invariant c.word_from-v.ensures (sym c.ends.ensures ∙ c.if-ends.false) in omega (arith, f.own, f.room, c.word_from-v.ensures.near.on, c.word_from.ensures.later, c.over-p.ensures.later)

pub list-loop-word-preserved-then-calls : goal.list-loop-word-preserved-then-calls
list-loop-word-preserved-then-calls t c = listing_call c.loop-word.invariant c.word_from-v.ensures (sym c.calls.ensures ∙ c.if-calls.true) c.word_from.ensures c.over-p.ensures c.of_call.ensures c.max-acts.ensures

pub list-loop-word-smaller : goal.list-loop-word-smaller
list-loop-word-smaller t c = let f = listing_forward c.loop-word.invariant c.word_from-v.ensures (sym c.ends.ensures ∙ c.if-ends.false) in omega (arith, f.own, f.room)

pub list-loop-word-preserved : goal.list-loop-word-preserved
list-loop-word-preserved t c = listing_word c.loop-word.invariant c.word_from-v.ensures (sym c.ends.ensures ∙ c.if-ends.false) c.if-word-eq-PARALLEL.false (sym c.calls.ensures ∙ c.if-calls.false)

pub parallel-list-at-requires : goal.parallel-list-at-requires
parallel-list-at-requires t c = (omega (arith, c.decreases), c.requires)

pub parallel-loop-word-init : goal.parallel-loop-word-init
parallel-loop-word-init t c = branching_start c.list-at.ensures

pub parallel-word_from-word-requires : goal.parallel-word_from-word-requires
parallel-word_from-word-requires t c = (c.loop-word.invariant.near.short, c.loop-word.invariant.near.inside)

pub parallel-returns-then-w-eq-ENDPARALLEL : goal.parallel-returns-then-w-eq-ENDPARALLEL
parallel-returns-then-w-eq-ENDPARALLEL t c = branching_ends c.loop-word.invariant c.list-at.ensures c.word_from-word.ensures c.if-w-eq-ENDPARALLEL.true c.added.ensures c.max-acts.ensures

pub parallel-returns-then-w-ne-BARS : goal.parallel-returns-then-w-ne-BARS
parallel-returns-then-w-ne-BARS t c = branching_stops c.loop-word.invariant c.list-at.ensures c.if-w-eq-ENDPARALLEL.false c.if-w-ne-BARS.true

pub parallel-word_from-v-requires : goal.parallel-word_from-v-requires
parallel-word_from-v-requires t c = (c.loop-word.invariant.near.short, c.loop-word.invariant.near.inside)

pub parallel-list-at-requires-in-loop-word : goal.parallel-list-at-requires-in-loop-word
parallel-list-at-requires-in-loop-word t c = let f = branching_forward c.loop-word.invariant c.list-at.ensures c.word_from-v.ensures c.if-w-ne-BARS.false in (omega (arith, c.decreases, f.whole, f.room, c.list-at.ensures.later, c.loop-word.invariant.later), c.word_from-v.ensures.near)

pub parallel-loop-word-smaller : goal.parallel-loop-word-smaller
parallel-loop-word-smaller t c = let f = branching_forward c.loop-word.invariant c.list-at.ensures c.word_from-v.ensures c.if-w-ne-BARS.false in omega (arith, f.own, f.room, c.list-at-in-loop-word.ensures.later)

pub parallel-loop-word-preserved : goal.parallel-loop-word-preserved
parallel-loop-word-preserved t c = branching_on c.loop-word.invariant c.word_from-v.ensures c.if-w-ne-BARS.false c.added-sum.ensures c.list-at-in-loop-word.ensures
