-- `frames::list::head_of` meets its contract.
-- Assumes nothing.
use Rattle.frames.proofs.Listed.{pass_start, pass_none, pass_last, pass_on, pass_over, body_at}
use Rattle.frames.specs.Layout.{past_word}
use mathlib.Core.Path.{◌∙◌, ap}
use native.Mathlib.Omega.{arith}
use Rattle.frames.proofs.list.head_of.Goals as goal

pub loop-i-init : goal.loop-i-init
loop-i-init c = pass_start c.args.s.now c.args.p c.past-from.result (c.past-from.ensures ∙ ap (past_word c.args.s.now) c.past.ensures)

pub returns-then-not-w : goal.returns-then-not-w
returns-then-not-w c = let (x, y) = pass_none c.args.s.now 8192 c.loop-i.from c.loop-i.i _ _ c.loop-i-test.true c.word_of-w.ensures c.loop-i.invariant c.if-not-w.true in (x, body_at c.args.s.now c.args.p c.loop-i.from c.past-then-not-w.result c.past-then-not-w.ensures y)

pub returns-then-not-c : goal.returns-then-not-c
returns-then-not-c c = let (x, y) = pass_last c.args.s.now 8192 c.loop-i.from c.loop-i.i _ _ c.loop-i-test.true c.word_of-w.ensures c.loop-i.invariant c.word_of-c.ensures c.if-not-w.false c.if-not-c.true in (x, body_at c.args.s.now c.args.p c.word_of-w.result.past c.past-then-not-c.result c.past-then-not-c.ensures y)

pub loop-i-preserved : goal.loop-i-preserved
loop-i-preserved c = pass_on c.args.s.now 8192 c.loop-i.from c.loop-i.i _ _ c.loop-i-test.true c.word_of-w.ensures c.loop-i.invariant c.word_of-c.ensures c.if-not-w.false c.if-not-c.false

pub returns : goal.returns
returns c = let (x, y) = pass_over c.args.s.now 8192 c.loop-i.from c.loop-i.i _ _ (omega arith) c.loop-i.invariant in (omega (arith, x), body_at c.args.s.now c.args.p c.loop-i.from c.past-2.result c.past-2.ensures y)
