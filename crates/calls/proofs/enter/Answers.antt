-- `calls::enter` meets its contract.
-- Assumes nothing.
use Rattle.calls.proofs.Entering.{end_known, enters_none, enters_full, enters_other, enters_settled}
use Rattle.calls.specs.Room.{BodyAt}
use Prim.Native.Nat.{ℕ}
use mathlib.Core.Path.{subst, ◌∙◌, ap}
use Rattle.frames.specs.Layout.{body_from}
use Rattle.calls.proofs.enter.Goals as goal

pub returns-in_default : goal.returns-in_default
returns-in_default c = enters_none c.args.s.now c.args.t.now c.args.u c.args.first c.word_from-open.result c.requires c.word_from-open.ensures c.hand_over-h.new.t c.hand_over-h.result c.hand_over-h.ensures c.word_from.result c.word_from.ensures c.in_default.ensures

pub returns-in_default-frame_end : goal.returns-in_default-frame_end
returns-in_default-frame_end c = enters_full c.args.s.now c.args.t.now c.args.u c.args.first c.word_from-open.result c.requires c.word_from-open.ensures c.hand_over-h-in_default-frame_end.new.t c.hand_over-h-in_default-frame_end.result c.hand_over-h-in_default-frame_end.ensures c.word_from-in_default-frame_end.result c.word_from-in_default-frame_end.ensures c.in-Some.ensures c.procedure_at-p.ensures (rw c.from.ensures at c.head_of-head.ensures.0) c.in_default-frame_end.ensures

pub returns-then-h-head : goal.returns-then-h-head
returns-then-h-head c = enters_other c.args.s.now c.args.t.now c.args.u c.args.first c.word_from-open.result c.requires c.word_from-open.ensures c.in-Some.row c.procedure_at-p.result c.head_of-head.result.count c.in-Some-frame_end.to c.in-Some.ensures c.procedure_at-p.ensures (rw c.from.ensures at c.head_of-head.ensures.0) (end_known c.in-Some-frame_end.ensures) c.hand_over-h-2.new.t c.hand_over-h-2.result c.hand_over-h-2.ensures c.word_from-word.result c.word_from-word.ensures c.clear.new.t c.if-h-head.true c.clear.ensures

pub settled-requires : goal.settled-requires
settled-requires c = (c.body_word-body.ensures.near, (end_known c.in-Some-frame_end.ensures).few)

pub returns : goal.returns
returns c = enters_settled c.args.s.now c.args.t.now c.args.u c.args.first c.word_from-open.result c.requires c.word_from-open.ensures c.in-Some.row c.procedure_at-p.result c.head_of-head.result.count c.in-Some-frame_end.to c.in-Some.ensures c.procedure_at-p.ensures (rw c.from.ensures at c.head_of-head.ensures.0) (end_known c.in-Some-frame_end.ensures) c.hand_over-h-2.new.t c.hand_over-h-2.result c.hand_over-h-2.ensures c.word_from-word.result c.word_from-word.ensures c.body_word-body.result (subst (λ (l : ℕ). BodyAt c.args.s.now l c.body_word-body.result) (c.head_of-head.ensures.1 ∙ ap (body_from c.args.s.now) c.from.ensures) c.body_word-body.ensures) c.if-h-head.false c.settled.new.t c.settled.result c.settled.ensures
