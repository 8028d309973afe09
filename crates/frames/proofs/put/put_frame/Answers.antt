-- `frames::put::put_frame` meets its contract.
-- Assumes nothing.
use Rattle.frames.proofs.Putting.{puts_on}
use Rattle.frames.specs.Put.{half_in, frame_in}
use Prim.Native.Nat.{ℕ, ◌+◌}
use mathlib.Core.List.{List}
use Rattle.frames.proofs.put.put_frame.Goals as goal

pub returns : goal.returns
unfolding frame_in
returns c = puts_on (λ (z : List ℕ). half_in z (c.args.top + 2) c.args.p) (rw c.from-o.ensures at c.put_half.ensures) (rw c.from-o.ensures at c.put_half-2.ensures)
