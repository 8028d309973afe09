-- `words::number_at` meets its contract.
-- Assumes nothing.
use native.Mathlib.Omega.{arith}
use Rattle.language.specs.Words.{in_number}
use Rattle.language.proofs.ScanLaws.{run_inside}
use Rattle.words.specs.Runs.{part}
use Rattle.words.proofs.NumberLaws.{number_fits, number-large}
use Rattle.words.proofs.number_at.Goals as goal

pub slice_bounds-value-end : goal.slice_bounds-value-end
slice_bounds-value-end c =
    omega (arith, c.number_end-end.ensures, run_inside in_number c.args.s.now c.args.at (omega arith))

pub returns-then-value-le-LARGEST_NUMBER : goal.returns-then-value-le-LARGEST_NUMBER
unfolding part
returns-then-value-le-LARGEST_NUMBER c =
    number_fits c.args.s.now c.args.at c.requires.0 c.requires.1 c.requires.2 _ c.number_end-end.ensures _ c.value-value.ensures (omega arith)

pub returns : goal.returns
unfolding part
returns c =
    number-large c.args.s.now c.args.at c.requires.0 c.requires.1 c.requires.2 _ c.number_end-end.ensures _ c.value-value.ensures (omega arith)
