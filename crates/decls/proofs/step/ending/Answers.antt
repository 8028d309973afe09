-- `decls::step::ending` meets its contract.
-- Assumes nothing.
use mathlib.Core.Logic.{inl, inr}
use Rattle.decls.proofs.Laws.{ended-high, ended-low, ended-none}
use Rattle.decls.proofs.step.ending.Goals as goal

pub returns-then-h-eq-LOW : goal.returns-then-h-eq-LOW
returns-then-h-eq-LOW c = elim c.if-h-eq-LOW.either [ inl e ↦ ended-high c.requires c.word_from.ensures e | inr e ↦ ended-low c.requires c.word_from.ensures e.1 ]

pub returns-else-h-eq-LOW : goal.returns-else-h-eq-LOW
returns-else-h-eq-LOW c = ended-none c.requires c.if-h-eq-LOW.false.0 c.if-h-eq-LOW.false.1
