-- `kiss_fields::size_line` meets its contract: the line is put together and compared.
-- Assumes nothing.
use native.Mathlib.Omega.{arith}
use Rattle.kiss_fields.proofs.Taking.{put_front}
use Rattle.kiss_fields.specs.Took.{Agrees}
use Prim.Native.Nat.{ℕ}
use mathlib.Core.Path.{sym, subst}
use mathlib.Core.List.{List}
use lib.Seq.{length-take-le}
use Rattle.kiss_law.specs.Text.{size_line}
use Rattle.kiss_law.proofs.Decimal.{length-decimal}
use Rattle.kiss_put.proofs.Puts.{length-line}
use Rattle.kiss_fields.proofs.size_line.Goals as goal

pub size_line-len-requires : goal.size_line-len-requires
size_line-len-requires c = (c.requires.1, omega (arith, length-line c.args.letter c.args.n, length-decimal 5 c.args.n))

pub slice_bounds-want-end : goal.slice_bounds-want-end
slice_bounds-want-end c = omega (arith, c.size_line-len.ensures.end, c.size_line-len.ensures.long, length-line c.args.letter c.args.n, length-decimal 5 c.args.n)

pub slice_bounds-agree-end : goal.slice_bounds-agree-end
slice_bounds-agree-end c = sym (length-take-le c.size_line-len.result c.size_line-len.new.text (omega (arith, c.size_line-len.ensures.end, c.size_line-len.ensures.long, length-line c.args.letter c.args.n, length-decimal 5 c.args.n)))

pub returns : goal.returns
returns c = (subst (λ (w : List ℕ). Agrees c.args.text.now c.args.at w c.agree-same.result) (put_front (size_line c.args.letter c.args.n) c.size_line-len.ensures) c.agree-same.ensures, omega (arith, c.size_line-len.ensures.end))
