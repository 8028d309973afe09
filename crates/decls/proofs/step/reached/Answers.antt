-- `decls::step::reached` meets its contract.
-- Assumes nothing.
use Rattle.decls.proofs.Laws.{reach_ends, reach_over, reach_on}
use native.Mathlib.Omega.{arith}
use Rattle.decls.proofs.step.reached.Goals as goal
use Rattle.decls.proofs.step.reached.Goals.{then-h-eq-ENDPROC-via-then-h-eq-ENDPROC, then-h-eq-ENDPROC-via-else-h-eq-ENDPROC+then-h-gt-ENDCOMPRESS}

pub loop-h-preserved : goal.loop-h-preserved
loop-h-preserved c = reach_on c.loop-h.invariant (λ e. omega (arith, e)) c.if-h-gt-ENDCOMPRESS.false c.word_from-h.ensures

pub returns-then-h-eq-ENDPROC : goal.returns-then-h-eq-ENDPROC
returns-then-h-eq-ENDPROC c = elim c.then-h-eq-ENDPROC.branch [ then-h-eq-ENDPROC-via-then-h-eq-ENDPROC w ↦ reach_ends c.loop-h.invariant w.if-h-eq-ENDPROC.true | then-h-eq-ENDPROC-via-else-h-eq-ENDPROC+then-h-gt-ENDCOMPRESS w ↦ reach_over c.loop-h.invariant w.if-h-gt-ENDCOMPRESS.true ]
