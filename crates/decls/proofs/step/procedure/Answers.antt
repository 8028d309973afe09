-- `decls::step::procedure` meets its contract.
-- Assumes nothing.
use mathlib.Core.Path.{refl}
use Rattle.names.specs.declared.Kind.TheVariants.{Procedure}
use Rattle.decls.proofs.Laws.{list-most, step-procedure}
use Rattle.decls.proofs.step.procedure.Goals as goal

pub returns : goal.returns
returns c = rw c.bare.ensures (step-procedure (record { near = c.requires.0; list = list-most Procedure }) refl c.requires.1 c.word_from.ensures c.reached-e.ensures c.word_from-2.ensures c.after-v.ensures c.opened.ensures)
