-- `decls::outputs` meets its contract.
-- Assumes nothing.
use Rattle.decls.proofs.Laws.{some-list, from-list}
use Rattle.decls.proofs.Loops.{count_on, count-ends, count_never}
use Rattle.decls.proofs.outputs.Goals as goal

pub loop-at-preserved : goal.loop-at-preserved
loop-at-preserved c = count_on c.loop-at.invariant (from-list c.in-Some.is c.step-t.ensures) c.counted-n.ensures

pub returns-in_default : goal.returns-in_default
returns-in_default c = count-ends c.loop-at.invariant c.in_default.is

pub returns-then-at-ne-NAME : goal.returns-then-at-ne-NAME
returns-then-at-ne-NAME c = count_never c.loop-at.invariant (some-list c.in-Some.is) c.if-at-ne-NAME.true
