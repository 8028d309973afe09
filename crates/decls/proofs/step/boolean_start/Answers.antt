-- `decls::step::boolean_start` meets its contract.
-- Assumes nothing.
use Rattle.decls.proofs.Laws.{boolean-none, boolean-by}
use Rattle.decls.proofs.step.boolean_start.Goals as goal

pub returns-then-h-ne-IS : goal.returns-then-h-ne-IS
returns-then-h-ne-IS c = boolean-none c.requires c.if-h-ne-IS.true

pub returns : goal.returns
returns c = boolean-by c.requires c.if-h-ne-IS.false c.word_from-v.ensures c.word_from.ensures c.from.ensures
