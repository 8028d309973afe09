-- `tables::fill` meets its contract: what is left to put in comes to the whole.
-- Assumes nothing.
use Rattle.std.proofs.Common.{◌≡◌, length, drop}
use Rattle.tables.specs.Laying.{stored}
use Rattle.tables.proofs.fill.Given as goal

abbrev pub invariant-loop-at : goal.invariant-loop-at
invariant-loop-at l = stored (drop (length l.yielded) l.called) (drop (length l.yielded) l.places) l.t ≡ stored l.called l.places l.initial.t
