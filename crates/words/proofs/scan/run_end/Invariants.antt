-- `words::scan::run_end` meets its contract: the run from `i` ends where the run from `from` does.
-- Assumes nothing.
use Rattle.std.proofs.Common.{◌≡◌, Bool, ℕ}
use Rattle.words.specs.Runs.{run_end, Tests}
use Rattle.words.proofs.scan.run_end.Given as goal

abbrev pub invariant-loop-i : goal.invariant-loop-i
invariant-loop-i g l = (t : ℕ → ℕ → Bool) → Tests t l.s (goal.F-post g l.goes_on) → run_end t l.s l.i ≡ run_end t l.s l.from
