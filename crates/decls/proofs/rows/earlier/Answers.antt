-- `decls::rows::earlier` meets its contract.
-- Assumes nothing.
use mathlib.Core.Path.{sym, ◌∙◌}
use Rattle.decls.proofs.Entering.{seek_over, seek_none, seek_here, seek_on}
use Rattle.decls.proofs.rows.earlier.Goals as goal

pub returns-then-to-from : goal.returns-then-to-from
returns-then-to-from c = seek_over c.loop-from.invariant c.if-to-from.true

pub returns-then-w-gt-ENDCOMPRESS : goal.returns-then-w-gt-ENDCOMPRESS
returns-then-w-gt-ENDCOMPRESS c = seek_none c.loop-from.invariant c.if-to-from.false c.word_from-w.ensures c.if-w-gt-ENDCOMPRESS.true

pub returns-then-same_name : goal.returns-then-same_name
returns-then-same_name c = seek_here c.loop-from.invariant c.if-to-from.false c.word_from-w.ensures (sym c.same_name.ensures ∙ c.if-same_name.true)

pub loop-from-preserved : goal.loop-from-preserved
loop-from-preserved c = seek_on c.loop-from.invariant c.if-to-from.false c.word_from-w.ensures (sym c.same_name.ensures ∙ c.if-same_name.false) c.word_from-c.ensures
