-- `decls::rows::called` meets its contract.
-- Assumes nothing.
use Rattle.std.proofs.Common.{◌≡◌}
use Rattle.words.specs.Runs.{part}
use Rattle.decls.specs.Held.{row_in}
use Rattle.decls.proofs.rows.called.Given as goal

abbrev pub invariant-loop-i : goal.invariant-loop-i
invariant-loop-i l = row_in l.s l.t l.i (part l.s l.a l.b) ≡ row_in l.s l.t l.n (part l.s l.a l.b)
