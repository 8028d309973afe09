-- `decls::step::step` meets its contract.
-- Assumes nothing.
use native.Mathlib.Omega.{arith}
use Rattle.decls.proofs.step.step.Goals as goal

pub behind-requires : goal.behind-requires
behind-requires c = rw c.in-Input.is (c.requires.0, omega arith, c.requires.1, c.input.ensures)

pub behind-requires-in-Integer : goal.behind-requires-in-Integer
behind-requires-in-Integer c = rw c.in-Integer.is (c.requires.0, omega arith, c.requires.1, c.integer.ensures)
