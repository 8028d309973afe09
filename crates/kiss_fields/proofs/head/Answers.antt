-- `kiss_fields::head` meets its contract: it is compared with the text that is put together.
-- Assumes nothing.
use native.Mathlib.Omega.{arith}
use Rattle.kiss_fields.proofs.Taking.{put_front}
use Rattle.kiss_fields.specs.Took.{Took}
use Prim.Native.Nat.{ℕ}
use mathlib.Core.Path.{sym, subst}
use mathlib.Core.List.{List}
use lib.Seq.{length-take-le}
use Rattle.kiss_law.specs.Text.{row_head}
use Rattle.kiss_law.proofs.Decimal.{length-decimal}
use Rattle.kiss_put.proofs.Puts.{length-head}
use Rattle.kiss_fields.proofs.head.Goals as goal

pub row_head-len-requires : goal.row_head-len-requires
row_head-len-requires c = (omega (arith, c.requires.2), omega (arith, c.requires.1, length-head c.args.k c.args.state c.args.input, length-decimal 5 c.args.state))

pub slice_bounds-want-end : goal.slice_bounds-want-end
slice_bounds-want-end c = omega (arith, c.row_head-len.ensures.end, c.row_head-len.ensures.long, c.requires.1, length-head c.args.k c.args.state c.args.input, length-decimal 5 c.args.state)

pub slice_bounds-fixed-end : goal.slice_bounds-fixed-end
slice_bounds-fixed-end c = sym (length-take-le c.row_head-len.result c.row_head-len.new.text (omega (arith, c.row_head-len.ensures.end, c.row_head-len.ensures.long, c.requires.1, length-head c.args.k c.args.state c.args.input, length-decimal 5 c.args.state)))

pub returns : goal.returns
returns c = subst (λ (w : List ℕ). Took 1 (λ (a : ℕ). w) c.args.text.now c.args.at c.fixed.result) (put_front (row_head c.args.k c.args.state c.args.input) c.row_head-len.ensures) c.fixed.ensures
