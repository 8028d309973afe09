-- `spellings::reserved_from` meets its contract: what begins with another byte is left out, and does not fit.
-- Assumes nothing.
use Prim.Native.Nat.{◌-◌}
use Rattle.spellings.specs.Spelled.{spelling_count}
use Rattle.spellings.proofs.Fitting.{WordAlong}
use Rattle.spellings.proofs.reserved_from.Given as goal

abbrev pub invariant-loop-k : goal.invariant-loop-k
invariant-loop-k l = WordAlong l.s l.at l.e l.k

abbrev pub decreases-loop-k : goal.decreases-loop-k
decreases-loop-k l = spelling_count - l.k
