-- `frames::put::clean` meets its contract.
-- Assumes nothing.
use Rattle.frames.specs.Put.{zero_from}
use Rattle.parts.specs.Beside.{beside}
use Prim.Native.Nat.{◌-◌}
use mathlib.Core.Path.{◌≡◌}
use Rattle.frames.proofs.put.clean.Given as goal

abbrev pub invariant-loop-i : goal.invariant-loop-i
invariant-loop-i l = zero_from (beside l.t).names l.i (l.to - l.i) ≡ zero_from (beside l.t).names l.from (l.to - l.from)
