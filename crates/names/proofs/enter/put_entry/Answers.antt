-- `names::enter::put_entry` meets its contract.
-- Assumes nothing.
use Rattle.std.proofs.Common.{◌≡◌, ◌+◌, ◌-◌, ◌*◌, ◌/◌, ◌%◌, arith}
use Rattle.names.specs.Look.{put_entry}
use Rattle.names.proofs.Small.{put_four}
use Rattle.names.proofs.enter.put_entry.Goals as goal

pub returns : goal.returns
unfolding put_entry
returns c = let a = c.args in let four : a.i * 4 + 4 - a.i * 4 ≡ 4 = omega arith in let high : a.p / 256 % 256 ≡ a.p / 256 = omega arith in rw (c.copy_from_slice.ensures.after, c.to_le_bytes.ensures, c.from-b.ensures, four, high) (put_four a.t.now (a.i * 4) (a.p % 256) (a.p / 256 + a.kind * 32) a.len a.number (omega arith))
