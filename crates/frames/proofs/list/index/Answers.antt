-- `frames::list::index` meets its contract.
-- Assumes nothing.
use Rattle.frames.proofs.Listed.{list-start, list_over, no_name_lem, here, last, on}
use Rattle.frames.specs.Layout.{past_word}
use Rattle.words.specs.Runs.{part}
use mathlib.Core.Path.{◌∙◌, ap}
use native.Mathlib.Omega.{arith}
use Rattle.frames.proofs.list.index.Goals as goal

pub loop-i-init : goal.loop-i-init
loop-i-init c = list-start c.args.s.now (part c.args.s.now c.args.a c.args.b) c.args.p c.past-from.result (c.past-from.ensures ∙ ap (past_word c.args.s.now) c.past.ensures)

pub returns-then-not-w : goal.returns-then-not-w
returns-then-not-w c = no_name_lem c.args.s.now 8192 c.loop-i.from c.loop-i.i c.args.a c.args.b _ c.loop-i-test.true c.word_of-w.ensures c.loop-i.invariant c.if-not-w.true

pub returns-then-same_name : goal.returns-then-same_name
returns-then-same_name c = here c.args.s.now 8192 c.loop-i.from c.loop-i.i c.args.a c.args.b _ c.loop-i-test.true c.word_of-w.ensures c.loop-i.invariant c.if-not-w.false (rw (c.from.ensures, c.from-in-loop-i.ensures) at c.same_name.ensures) c.if-same_name.true

pub returns-then-not-c : goal.returns-then-not-c
returns-then-not-c c = last c.args.s.now 8192 c.loop-i.from c.loop-i.i c.args.a c.args.b _ c.loop-i-test.true c.word_of-w.ensures c.loop-i.invariant c.word_of-c.ensures c.if-not-w.false (rw (c.from.ensures, c.from-in-loop-i.ensures) at c.same_name.ensures) c.if-same_name.false c.if-not-c.true

pub loop-i-preserved : goal.loop-i-preserved
loop-i-preserved c = on c.args.s.now 8192 c.loop-i.from c.loop-i.i c.args.a c.args.b _ c.loop-i-test.true c.word_of-w.ensures c.loop-i.invariant c.word_of-c.ensures c.if-not-w.false (rw (c.from.ensures, c.from-in-loop-i.ensures) at c.same_name.ensures) c.if-same_name.false c.if-not-c.false

pub returns : goal.returns
returns c = list_over c.args.s.now (part c.args.s.now c.args.a c.args.b) 8192 c.loop-i.from c.loop-i.i _ (omega arith) c.loop-i.invariant
