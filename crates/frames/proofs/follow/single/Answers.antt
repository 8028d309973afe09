-- `frames::follow::single` meets its contract.
-- Assumes nothing.
use Rattle.frames.proofs.Single.{past_end, joins-apart, single_not, single_joined, single_name, single_bit-joined, single_bit}
use mathlib.Core.Path.{sym, ◌∙◌}
use native.Mathlib.Omega.{arith}
use Rattle.frames.proofs.follow.single.Goals as goal

pub returns-then-from-s : goal.returns-then-from-s
returns-then-from-s c = past_end c.args.s.now c.args.from (omega arith)

pub returns-then-w-ne-NAME : goal.returns-then-w-ne-NAME
returns-then-w-ne-NAME c = single_not c.word_from-w.ensures c.if-w-ne-NAME.true

pub returns-then-joins : goal.returns-then-joins
returns-then-joins c = let j = sym c.joins.ensures ∙ c.if-joins.true in single_joined c.word_from-w.ensures c.if-w-ne-NAME.false c.word_from-c.ensures (joins-apart c.word_from-c.result.kind j) j

pub returns-then-c-ne-LEFT : goal.returns-then-c-ne-LEFT
returns-then-c-ne-LEFT c = single_name c.word_from-w.ensures c.if-w-ne-NAME.false c.word_from-c.ensures c.if-c-ne-LEFT.true (sym c.joins.ensures ∙ c.if-joins.false)

pub returns-then-joins-2 : goal.returns-then-joins-2
returns-then-joins-2 c = single_bit-joined c.word_from-w.ensures c.if-w-ne-NAME.false c.word_from-c.ensures c.if-c-ne-LEFT.false c.word_from-m.ensures c.word_from-e.ensures c.word_from-d.ensures (sym c.joins-2.ensures ∙ c.if-joins-2.true)

pub returns : goal.returns
returns c = single_bit c.word_from-w.ensures c.if-w-ne-NAME.false c.word_from-c.ensures c.if-c-ne-LEFT.false c.word_from-m.ensures c.word_from-e.ensures c.word_from-d.ensures (sym c.joins-2.ensures ∙ c.if-joins-2.false)
