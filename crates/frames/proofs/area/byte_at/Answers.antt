-- `frames::area::byte_at` meets its contract.
-- Assumes nothing.
use Rattle.parts.specs.Beside.{beside}
use lib.Seq.{get_or-drop}
use mathlib.Core.Path.{sym, ◌∙◌}
use Rattle.frames.proofs.area.byte_at.Goals as goal

pub returns : goal.returns
unfolding beside
returns c = c.byte.ensures ∙ sym (get_or-drop 16384 c.args.t.now c.args.o 0)
