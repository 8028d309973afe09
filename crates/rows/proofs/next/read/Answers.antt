use Prim.Native.Nat.{◌+◌, ◌*◌}
use native.Mathlib.Omega.{arith}
use Rattle.rows.specs.Area.{next_in}
use Rattle.rows.proofs.next.read.Goals as goal

pub returns : goal.returns
unfolding next_in
returns c = (c.from.ensures, omega (arith, c.from.ensures, c.type_inv.area (9728 + 64 * c.args.i + c.args.x)))
