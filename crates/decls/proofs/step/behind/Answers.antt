-- `decls::step::behind` meets its contract.
-- Assumes nothing.
use mathlib.Core.Path.{refl}
use Rattle.decls.proofs.Laws.{some-list, list-most, step-comma, step-close}
use Rattle.decls.proofs.step.behind.Goals as goal

pub returns-then-n-eq-COMMA : goal.returns-then-n-eq-COMMA
returns-then-n-eq-COMMA c = step-comma (record { near = c.requires.0; list = list-most c.args.kind }) (some-list refl) c.requires.1 c.requires.2 c.requires.3 c.word_from-v.ensures c.if-n-eq-COMMA.true

pub returns-else-n-eq-COMMA : goal.returns-else-n-eq-COMMA
returns-else-n-eq-COMMA c = step-close (record { near = c.requires.0; list = list-most c.args.kind }) (some-list refl) c.requires.1 c.requires.2 c.requires.3 c.word_from-v.ensures c.if-n-eq-COMMA.false c.opened.ensures
