-- `decls::step::after` meets its contract.
-- Assumes nothing.
use Rattle.decls.proofs.Laws.{after-close, after_none}
use Rattle.decls.proofs.step.after.Goals as goal

pub returns-then-h-eq-SEMICOLON : goal.returns-then-h-eq-SEMICOLON
returns-then-h-eq-SEMICOLON c = after-close c.requires c.if-h-eq-SEMICOLON.true c.word_from.ensures

pub returns-else-h-eq-SEMICOLON : goal.returns-else-h-eq-SEMICOLON
returns-else-h-eq-SEMICOLON c = after_none c.requires c.if-h-eq-SEMICOLON.false
