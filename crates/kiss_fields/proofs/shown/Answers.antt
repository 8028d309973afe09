-- `kiss_fields::shown` meets its contract: they are compared with the bits that are put together.
-- Assumes nothing.
use native.Mathlib.Omega.{arith}
use Rattle.kiss_fields.proofs.Taking.{put_front}
use Rattle.kiss_fields.specs.Took.{Took}
use Prim.Native.Nat.{ℕ}
use mathlib.Core.Path.{sym, subst}
use mathlib.Core.List.{List}
use lib.Seq.{length-take-le}
use Rattle.kiss_law.specs.Text.{bits}
use Rattle.kiss_law.proofs.Bits.{length-bits}
use Rattle.kiss_fields.proofs.shown.Goals as goal

pub bits-len-requires : goal.bits-len-requires
bits-len-requires c = omega (arith, c.requires.1)

pub slice_bounds-want-end : goal.slice_bounds-want-end
slice_bounds-want-end c = omega (arith, c.bits-len.ensures.end, c.bits-len.ensures.long, c.requires.1, length-bits c.args.o c.args.word)

pub slice_bounds-fixed-end : goal.slice_bounds-fixed-end
slice_bounds-fixed-end c = sym (length-take-le c.bits-len.result c.bits-len.new.text (omega (arith, c.bits-len.ensures.end, c.bits-len.ensures.long, c.requires.1, length-bits c.args.o c.args.word)))

pub returns : goal.returns
returns c = subst (λ (w : List ℕ). Took 1 (λ (a : ℕ). w) c.args.text.now c.args.at c.fixed.result) (put_front (bits c.args.o c.args.word) c.bits-len.ensures) c.fixed.ensures
