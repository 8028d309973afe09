-- `wides::wide_of` meets its contract.
-- Assumes nothing.
use mathlib.Core.Path.{◌∙◌, ap}
use native.Mathlib.Omega.{arith}
use Rattle.parts.specs.Beside.{beside}
use Rattle.frames.specs.Layout.{body_from}
use Rattle.wides.proofs.Filling.{body-wide, body-beyond}
use Rattle.wides.proofs.wide_of.Goals as goal

pub returns-then-h-s : goal.returns-then-h-s
returns-then-h-s c = body-beyond c.args.s.now (beside c.args.t.now).names c.requires c.args.i (c.head_of-h.ensures.1 ∙ ap (body_from c.args.s.now) (c.from.ensures ∙ c.procedure_at-p.ensures)) c.if-h-s.true

pub overflow_cast-h : goal.overflow_cast-h
overflow_cast-h c = omega (arith, c.if-h-s.false, c.requires)

pub word_from-requires : goal.word_from-requires
word_from-requires c = (c.requires, c.if-h-s.false)

pub body-requires : goal.body-requires
body-requires c = c.word_from.ensures.near

pub returns : goal.returns
returns c = body-wide c.args.s.now (beside c.args.t.now).names c.requires c.args.i (c.head_of-h.ensures.1 ∙ ap (body_from c.args.s.now) (c.from.ensures ∙ c.procedure_at-p.ensures)) c.word_from.ensures c.body.ensures
