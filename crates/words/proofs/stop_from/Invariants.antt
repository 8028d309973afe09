-- `words::stop_from` meets its contract: the words from `from` on stop where the words from `place` on do.
-- Assumes nothing.
use mathlib.Core.Path.{◌≡◌}
use Prim.Native.Nat.{◌-◌, ◌≤◌}
use lib.ListN.{length}
use Rattle.language.specs.Scan.{words_from}
use Rattle.words.specs.Meaning.{stop_of}
use Rattle.words.proofs.stop_from.Given as goal

abbrev pub invariant-loop-w : goal.invariant-loop-w
invariant-loop-w l = (l.from ≤ length l.s) × (stop_of (words_from l.s l.from) ≡ stop_of (words_from l.s l.place))

abbrev pub decreases-loop-w : goal.decreases-loop-w
decreases-loop-w l = length l.s - l.from
