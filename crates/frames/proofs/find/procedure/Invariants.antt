-- `frames::find::procedure` meets its contract.
-- Assumes nothing.
use Rattle.frames.specs.Row.{row_in}
use Rattle.parts.specs.Beside.{beside}
use Rattle.words.specs.Runs.{part}
use mathlib.Core.Path.{◌≡◌}
use Rattle.frames.proofs.find.procedure.Given as goal

abbrev pub invariant-loop-n : goal.invariant-loop-n
invariant-loop-n l = row_in l.s (beside l.t).names l.n (part l.s l.a l.b) ≡ row_in l.s (beside l.t).names l.seen (part l.s l.a l.b)
