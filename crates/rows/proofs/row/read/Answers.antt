use native.Mathlib.Omega.{arith}
use mathlib.Core.Path.{refl, sym, ◌∙◌}
use lib.ListN.{length-set}
use Rattle.rows.proofs.Rows.{row_is, reading-more}
use Rattle.rows.proofs.row.read.Goals as goal

pub loop-e-preserved : goal.loop-e-preserved
loop-e-preserved c = let b = c.loop-e.invariant in (length-set c.loop-e.entries c.loop-e.e _ ∙ b.0, reading-more b.1 (omega arith) b.0 c.half_at.ensures refl)

pub returns : goal.returns
returns c = let b = c.loop-e.invariant in sym (row_is c.args.area.now c.args.i _ _ (omega arith) b.0 b.1 (sym c.full_at.ensures))
