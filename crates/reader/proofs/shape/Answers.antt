-- `reader::shape` meets its contract: a test at a time.
-- Assumes nothing.
use mathlib.Core.Path.{sym, ap, ◌∙◌}
use Prim.Native.Nat.{ℕ, ◌*◌}
use Rattle.std.proofs.Common.{Err}
use Rattle.file_law.specs.Bytes.{word2}
use Rattle.file_law.specs.Reading.{stream_in}
use Rattle.file_law.proofs.Content.{Stated, too_short, odd_sizes, odd_length, sound}
use Rattle.reader.specs.Meaning.{meaning}
use Rattle.reader.proofs.shape.Goals as goal
use Rattle.reader.proofs.shape.Goals.{After-word-n, Then-are_good, else-are_good-via-then-are_good+else-len-blocks_for, else-are_good-via-else-are_good}

-- the numbers that were read are the sizes that the file states
stated : (c : After-word-n) → Stated c.args.file.now c.byte-k.result c.byte-o.result c.word-n.result
unfolding stream_in word2
stated c = record { inputs = c.byte-k.ensures.0; outputs = c.byte-o.ensures.0; states = c.word-n.ensures.0 }

pub returns-then-len-lt512 : goal.returns-then-len-lt512
returns-then-len-lt512 c = ap (λ r. meaning (Err r)) c.whole.ensures ∙ too_short _ c.if-len-lt512.true

pub returns-then-len-blocks_for : goal.returns-then-len-blocks_for
returns-then-len-blocks_for c = sound (stated (goal.at.returns-then-len-blocks_for c).After-word-n) (sym c.are_good.ensures ∙ c.if-are_good.true) (c.if-len-blocks_for.true ∙ ap (λ (x : ℕ). 512 * x) c.blocks_for.ensures.0)

pub returns : goal.returns
returns c =
    let s = stated (goal.at.returns c).After-word-n in
    c.misshapen.ensures
    ∙ elim c.else-are_good.branch [
      | else-are_good-via-then-are_good+else-len-blocks_for w ↦ odd_length s (sym c.are_good.ensures ∙ w.if-are_good.true) (λ e. w.if-len-blocks_for.false (e ∙ sym (ap (λ (x : ℕ). 512 * x) w.blocks_for.ensures.0)))
      | else-are_good-via-else-are_good w ↦ odd_sizes s (sym c.are_good.ensures ∙ w.if-are_good.false)
    ]
