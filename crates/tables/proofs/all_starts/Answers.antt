-- `tables::all_starts` meets its contract: the calls rise, and are spread as the definition's starts, by computation.
-- Assumes nothing.
use mathlib.Core.Path.{refl}
use lib.ListN.{length-replicate}
use Prim.Native.Nat.{ℕ}
use Rattle.grammar_law.specs.Tables.{cell_count, calls}
use Rattle.grammar_law.specs.Starts.{among, called, across, laid, starts}
use Rattle.tables.proofs.Laid.{rising, spread, called-so, laid_so}
use Rattle.tables.proofs.all_starts.Goals as goal

pub fill-requires : goal.fill-requires
unfolding rising
fill-requires c = called-so (length-replicate {A = ℕ} cell_count 0) refl refl refl

pub returns : goal.returns
unfolding rising spread starts laid across called among calls
returns c = laid_so cell_count c.fill.ensures refl refl refl
