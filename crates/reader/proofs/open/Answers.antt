-- `reader::open` meets its contract: the length, the blocks, the content.
-- Assumes nothing.
use mathlib.Core.Path.{◌≡◌, sym, ap, ◌∙◌}
use Prim.Native.Nat.{◌/◌}
use native.Mathlib.Omega.{arith}
use mathlib.Core.Bool.{true}
use lib.ListN.{length}
use Rattle.std.proofs.Common.{Err}
use Rattle.file_law.specs.Reading.{length_good, block_good, blocks_answer, open_answer}
use Rattle.file_law.proofs.Every.{none-met, one-met}
use Rattle.reader.specs.Meaning.{meaning}
use Rattle.reader.proofs.open.Goals as goal
use Rattle.reader.proofs.open.Goals.{Else-not-length_good}

good : (c : Else-not-length_good) → length_good (length c.args.file.now) ≡ true
good c = sym c.length_good.ensures ∙ c.if-not-length_good.false

pub returns-then-not-length_good : goal.returns-then-not-length_good
unfolding open_answer
returns-then-not-length_good c = ap (λ r. meaning (Err r)) c.whole.ensures ∙ simp (sym c.length_good.ensures ∙ c.if-not-length_good.true)

pub returns-in-Some : goal.returns-in-Some
unfolding open_answer blocks_answer
returns-in-Some c =
    let f = c.args.file.now in
    let bad = c.in-Some.ensures.0 in
    simp (good (goal.at.returns-in-Some c).Else-not-length_good, c.fault.ensures, bad, one-met (block_good f (length f / 512)) (length f / 512) 0 (omega (arith, c.in-Some.ensures.1)))

pub returns-in-None : goal.returns-in-None
unfolding open_answer blocks_answer
returns-in-None c =
    let f = c.args.file.now in
    c.content.ensures
    ∙ simp (good (goal.at.returns-in-None c).Else-not-length_good, none-met (block_good f (length f / 512)) (length f / 512) 0 (omega (arith, c.in-None.ensures.0)))
