-- `tables::all_rows` meets its contract, by computation.
-- Assumes nothing.
use mathlib.Core.Path.{refl}
use Rattle.grammar_law.specs.Tables.{rows}
use Rattle.tables.proofs.all_rows.Goals as goal

pub returns : goal.returns
unfolding rows
returns c = refl
