-- `words::scan::value` meets its contract: the value so far is that of the digits so far, up to the cap.
-- Assumes nothing.
use Rattle.std.proofs.Common.{◌≡◌, take}
use Rattle.language.specs.Words.{value_of}
use Rattle.words.specs.Runs.{cap}
use Rattle.words.proofs.scan.value.Given as goal

abbrev pub invariant-loop-c : goal.invariant-loop-c
invariant-loop-c l = l.v ≡ cap (value_of (take l.c-index l.digits))
