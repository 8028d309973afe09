-- `calls::actuals::hand_over` meets its contract.
-- Assumes nothing.
use Rattle.calls.proofs.Handing.{hands_none, hands_start, hands_last, hands_on}
use Rattle.calls.proofs.actuals.hand_over.Goals as goal

pub returns-then-first-eq-CLOSE : goal.returns-then-first-eq-CLOSE
returns-then-first-eq-CLOSE c = hands_none c.args.s.now c.args.t.now c.args.u c.args.from c.args.room c.word_from-first.ensures c.if-first-eq-CLOSE.true

pub loop-u-init : goal.loop-u-init
loop-u-init c = hands_start c.args.s.now c.args.t.now c.args.u c.args.from c.args.room c.word_from-first.ensures c.requires.1 c.if-first-eq-CLOSE.false

pub returns-then-e-ne-COMMA : goal.returns-then-e-ne-COMMA
returns-then-e-ne-COMMA c = hands_last c.args.s.now c.args.t.now c.args.u c.args.from c.args.room c.requires.0 c.loop-u.invariant c.word_from-word.ensures c.sized-e.ensures c.put_if.ensures c.if-e-ne-COMMA.true

pub loop-u-preserved : goal.loop-u-preserved
loop-u-preserved c = hands_on c.args.s.now c.args.t.now c.args.u c.args.from c.args.room c.requires.0 c.loop-u.invariant c.word_from-word.ensures c.sized-e.ensures c.put_if.ensures c.if-e-ne-COMMA.false
