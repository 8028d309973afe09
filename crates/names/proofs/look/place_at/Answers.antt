-- `names::look::place_at` meets its contract.
-- Assumes nothing.
use Rattle.std.proofs.Common.{◌+◌, ◌*◌, get_or, arith}
use Rattle.names.specs.Look.{place_at}
use Rattle.names.proofs.Small.{thirteen}
use Rattle.names.proofs.look.place_at.Goals as goal

pub returns : goal.returns
unfolding place_at
returns c = let t = c.args.t.now in let i = c.args.i in rw (c.from.ensures, c.from_le_bytes.ensures) (thirteen (get_or t (i * 4) 0) (get_or t (i * 4 + 1) 0) (omega (arith, c.type_inv.t (i * 4))), omega arith)
