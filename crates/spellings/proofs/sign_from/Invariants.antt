-- `spellings::sign_from` meets its contract: what begins with another byte is left out, and does not fit.
-- Assumes nothing.
use Prim.Native.Nat.{◌-◌}
use Rattle.spellings.specs.Spelled.{sign_count}
use Rattle.spellings.proofs.Fitting.{SignAlong}
use Rattle.spellings.proofs.sign_from.Given as goal

abbrev pub invariant-loop-k : goal.invariant-loop-k
invariant-loop-k l = SignAlong l.s l.at l.k

abbrev pub decreases-loop-k : goal.decreases-loop-k
decreases-loop-k l = sign_count - l.k
