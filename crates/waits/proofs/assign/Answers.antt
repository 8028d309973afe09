use mathlib.Core.Path.{refl, sym}
use native.Mathlib.Omega.{arith}
use Rattle.runs.proofs.Comes.{comes_looked, comes_as}
use lib.Bits.{or_zero_r}
use Rattle.waits.proofs.assign.Goals as goal

pub returns : goal.returns
returns c = λ b.
    let C = rw (c.wrapped.ensures c.args.v.width (omega (arith, c.requires.1.0.1.0))) at (c.set_bits.ensures b) in
    comes_as refl (sym (or_zero_r _)) (comes_looked (rw (c.looks_at.ensures, c.requires.1.1) at c.look.ensures) C)
