-- `decls::enter_all` meets its contract.
-- Assumes nothing.
use Rattle.decls.proofs.Laws.{some-list, from-list}
use Rattle.decls.proofs.Loops.{going-variable, going-procedure, going-ends, going_never}
use Rattle.decls.proofs.enter_all.Goals as goal
use Rattle.decls.proofs.enter_all.Goals.{in-Procedure, in_default-kind}

pub returns-in_default : goal.returns-in_default
returns-in_default c = going-ends c.loop-at.invariant c.in_default.is

pub returns-then-at-ne-NAME : goal.returns-then-at-ne-NAME
returns-then-at-ne-NAME c = going_never c.loop-at.invariant (some-list c.in-Some.is) c.if-at-ne-NAME.true

pub loop-at-preserved : goal.loop-at-preserved
loop-at-preserved c = let some = some-list c.in-Some.is in let step = from-list c.in-Some.is c.step-x.ensures in elim c.match-x.branch [
  | in-Procedure w ↦ rw (w.m-is, w.n-is, w.t-is) (going-procedure c.loop-at.invariant some c.if-at-ne-NAME.false c.requires.1 step w.in-Procedure.is w.procedure_in-m.ensures)
  | in_default-kind w ↦ rw (w.m-is, w.n-is, w.t-is) (going-variable c.loop-at.invariant some c.if-at-ne-NAME.false c.requires.1 step w.in_default-kind.not-Procedure w.variable_in-m.ensures)
]
