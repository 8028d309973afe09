-- `gauge::measure` meets its contract.
-- Assumes nothing.
use mathlib.Core.Path.{◌∙◌}
use Rattle.gauge.proofs.Laws.{measured_none, measured_row, measured_missing, measured_again, measured_within}
use Rattle.gauge.proofs.measure.Goals as goal

pub returns-in_default-procedure : goal.returns-in_default-procedure
returns-in_default-procedure c =
    measured_missing c.outermost-m.ensures c.in_default.is c.in_default-procedure.ensures c.made-in_default-procedure.ensures

pub returns-in_default : goal.returns-in_default
returns-in_default c =
    measured_row c.outermost-m.ensures c.in_default.is c.in-Some-procedure.ensures (c.from.ensures ∙ c.wide_at.ensures) c.made-in_default.ensures

pub returns-then-m : goal.returns-then-m
returns-then-m c =
    let p = c.requires in
    measured_again c.outermost-m.ensures p.1 c.in-Some.is c.if-m.true c.outermost-own.ensures c.made-then-m.ensures

pub returns : goal.returns
returns c =
    let p = c.requires in
    measured_within c.outermost-m.ensures p.1 c.if-m.false c.made-2.ensures

pub returns-then-after-ne-OPEN : goal.returns-then-after-ne-OPEN
returns-then-after-ne-OPEN c =
    measured_none c.word_from-after.ensures c.requires.0 c.if-after-ne-OPEN.true c.made.ensures
