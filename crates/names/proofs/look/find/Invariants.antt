-- `names::look::find` meets its contract.
-- Assumes nothing.
use Rattle.std.proofs.Common.{◌≡◌, ◌-◌}
use Rattle.names.specs.Look.{look_from, look_in}
use Rattle.words.specs.Runs.{part}
use Rattle.names.proofs.look.find.Given as goal

abbrev pub invariant-loop-i : goal.invariant-loop-i
invariant-loop-i l = look_from l.s l.t (part l.s l.a l.b) (l.names - l.i) l.i ≡ look_in l.s l.t l.names (part l.s l.a l.b)
