-- `frames::put::put_actual` meets its contract.
-- Assumes nothing.
use Rattle.frames.proofs.Putting.{puts_on}
use Rattle.frames.specs.Put.{actual_in}
use lib.ListN.{set}
use Prim.Native.Nat.{ℕ, ◌+◌, ◌*◌, ◌/◌, ◌%◌}
use mathlib.Core.List.{List}
use Rattle.frames.proofs.put.put_actual.Goals as goal

pub returns : goal.returns
unfolding actual_in
returns c = puts_on (λ (z : List ℕ). set z (c.args.top + 4 + c.args.i * 4 + 3) c.args.levels)
    (puts_on (λ (z : List ℕ). set z (c.args.top + 4 + c.args.i * 4 + 2) (c.args.parts / 8 % 256))
    (puts_on (λ (z : List ℕ). set z (c.args.top + 4 + c.args.i * 4 + 1) (c.args.place / 256 % 32 + c.args.parts % 8 * 32)) (rw (c.from.ensures, c.from-2.ensures) at c.put_byte.ensures) (rw (c.from.ensures, c.from-2.ensures) at c.put_byte-2.ensures)) (rw (c.from.ensures, c.from-2.ensures) at c.put_byte-3.ensures)) (rw (c.from.ensures, c.from-2.ensures) at c.put_byte-4.ensures)
