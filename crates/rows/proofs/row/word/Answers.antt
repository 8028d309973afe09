use mathlib.Core.Path.{sym, ◌∙◌}
use Rattle.rows.proofs.Rows.{row_word}
use Rattle.rows.proofs.row.word.Goals as goal

pub returns : goal.returns
returns c = c.full_at.ensures ∙ sym (row_word c.args.area.now c.args.i)
