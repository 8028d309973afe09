-- `decls::rows::formals` meets its contract.
-- Assumes nothing.
use Rattle.decls.proofs.Entering.{note_start, note_none, note_last, note_on}
use Rattle.decls.proofs.rows.formals.Goals as goal

pub loop-w-init : goal.loop-w-init
loop-w-init c = note_start c.requires.1

pub returns-then-w-ne-NAME : goal.returns-then-w-ne-NAME
returns-then-w-ne-NAME c = note_none c.loop-w.invariant c.word_from-w.ensures c.if-w-ne-NAME.true

pub returns-then-c-ne-COMMA : goal.returns-then-c-ne-COMMA
returns-then-c-ne-COMMA c = note_last c.loop-w.invariant c.word_from-w.ensures c.if-w-ne-NAME.false c.again.ensures c.place_if-six.ensures c.word_from-c.ensures c.if-c-ne-COMMA.true

pub loop-w-preserved : goal.loop-w-preserved
loop-w-preserved c = note_on c.loop-w.invariant c.word_from-w.ensures c.if-w-ne-NAME.false c.again.ensures c.place_if-six.ensures c.word_from-c.ensures c.if-c-ne-COMMA.false
