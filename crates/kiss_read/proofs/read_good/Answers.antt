-- `kiss_read::read_good` meets its contract: 12, or the file.
-- Assumes nothing.
use native.Mathlib.Omega.{arith}
use Rattle.kiss_read.proofs.Blocks.{words-few, too_short, all_read}
use Prim.Native.Nat.{ℕ, ◌+◌}
use mathlib.Core.Path.{refl, ap}
use Rattle.kiss_read.proofs.read_good.Goals as goal

pub overflow_mul-total : goal.overflow_mul-total
overflow_mul-total c = omega (arith, words-few c.requires.sizes c.pow2-width.ensures.0)

pub overflow_add-total : goal.overflow_add-total
overflow_add-total c = omega (arith, words-few c.requires.sizes c.pow2-width.ensures.0)

pub overflow_mul-total-2 : goal.overflow_mul-total-2
overflow_mul-total-2 c = omega (arith, words-few c.requires.sizes c.pow2-width.ensures.0)

pub overflow_add-total-2 : goal.overflow_add-total-2
overflow_add-total-2 c = omega (arith, words-few c.requires.sizes c.pow2-width.ensures.0)

pub overflow_mul-total-3 : goal.overflow_mul-total-3
overflow_mul-total-3 c = omega (arith, words-few c.requires.sizes c.pow2-width.ensures.0)

pub returns-then-file-total : goal.returns-then-file-total
returns-then-file-total c = too_short c.args.text.now c.args.file.now c.args.walked (c.pow2-width.result + 1) _ c.requires (ap (λ (i : ℕ). i + 1) c.pow2-width.ensures.0) refl c.if-file-total.true

pub put_blocks-requires : goal.put_blocks-requires
put_blocks-requires c = (c.requires.inside, omega (arith, words-few c.requires.sizes c.pow2-width.ensures.0))

pub returns : goal.returns
returns c = all_read c.args.text.now c.args.file.now c.args.walked (c.pow2-width.result + 1) _ c.requires (ap (λ (i : ℕ). i + 1) c.pow2-width.ensures.0) refl _ (omega arith) c.put_blocks.ensures
