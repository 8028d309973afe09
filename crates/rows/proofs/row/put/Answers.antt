use native.Mathlib.Omega.{arith}
use Rattle.rows.proofs.Rows.{storing_more, stored}
use Rattle.rows.proofs.row.put.Goals as goal

pub loop-e-preserved : goal.loop-e-preserved
loop-e-preserved c = storing_more c.loop-e.invariant (omega arith) (omega arith) c.put_half.ensures.0 c.put_half.ensures.1

pub returns : goal.returns
returns c = stored c.args.i c.args.s c.requires.1 (omega arith) c.loop-e.invariant c.put_full.ensures.0 c.put_full.ensures.1
