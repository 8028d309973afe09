-- `decls::step::integer_start` meets its contract.
-- Assumes nothing.
use Rattle.decls.proofs.Laws.{integer-none, integer-value}
use Rattle.decls.proofs.step.integer_start.Goals as goal

pub returns-then-h-ne-IS : goal.returns-then-h-ne-IS
returns-then-h-ne-IS c = integer-none c.requires c.if-h-ne-IS.true

pub returns : goal.returns
returns c = integer-value c.requires c.if-h-ne-IS.false c.word_from-v.ensures c.word_from.ensures
