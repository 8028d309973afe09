use mathlib.Core.Path.{◌∙◌}
use Rattle.nodes.specs.Decode.{expr_at, most_deep}
use Rattle.value.proofs.Laws.{through, truth-back}
use Rattle.waits.proofs.holds.Goals as goal

pub returns : goal.returns
returns c = (c.truth.ensures ∙ rw (through _ c.value.type_inv, c.value.ensures) (truth-back (expr_at most_deep c.args.t.now c.args.x) _ c.requires.1.0.0), rw (← c.requires.1.1, ← c.looks_at.ensures) c.look.ensures)
