-- `reader::content` meets its contract: the shape, and then the rows.
-- Assumes nothing.
use mathlib.Core.Path.{sym, ap, ◌∙◌}
use native.Mathlib.Omega.{arith}
use Rattle.std.proofs.Common.{Err}
use Rattle.file_law.proofs.Content.{shaped, unshaped, content_shaped, content_unshaped}
use Rattle.reader.specs.Meaning.{meaning}
use Rattle.reader.proofs.content.Goals as goal
use Rattle.reader.proofs.content.Goals.{in_default-via-in-Ok+else-are_good, in_default-via-in_default}

pub invariant_of-are_good : goal.invariant_of-are_good
invariant_of-are_good c =
    let s = shaped _ c.in-Ok.ensures in
    record { room = record { inputs = s.size.inputs; states = s.size.states; blocks = omega (arith, s.exact) }; outputs = s.size.outputs }

pub returns-in-Ok : goal.returns-in-Ok
returns-in-Ok c =
    let s = shaped _ c.in-Ok.ensures in
    simp (content_shaped s ∙ sym c.are_good.ensures ∙ c.if-are_good.true, s.stated.inputs, s.stated.outputs, s.stated.states)

pub returns-in_default : goal.returns-in_default
returns-in_default c =
    ap (λ r. meaning (Err r)) c.whole.ensures
    ∙ elim c.in_default.branch [
      | in_default-via-in-Ok+else-are_good w ↦ simp (content_shaped (shaped _ w.in-Ok.ensures) ∙ sym w.are_good.ensures ∙ w.if-are_good.false)
      | in_default-via-in_default w ↦ simp (content_unshaped _ c.requires (unshaped _ w.in_default.ensures))
    ]
