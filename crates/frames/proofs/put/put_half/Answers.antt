-- `frames::put::put_half` meets its contract.
-- Assumes nothing.
use Rattle.std.proofs.Common.{◌≡◌, ℕ, ◌+◌, ◌/◌, ◌%◌, List, set, arith}
use Rattle.frames.proofs.Putting.{puts_on}
use Rattle.frames.specs.Put.{half_in}
use Rattle.frames.proofs.put.put_half.Goals as goal

pub returns : goal.returns
unfolding half_in
returns c = let x = c.args.x in let high : x / 256 % 256 ≡ x / 256 = omega arith in puts_on (λ (z : List ℕ). set z (c.args.o + 1) (x / 256)) (rw c.to_le_bytes.ensures at c.put_byte.ensures) (rw (c.to_le_bytes.ensures, high) at c.put_byte-2.ensures)
