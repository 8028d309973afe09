-- `kiss_fields::agree` meets its contract. The loop's invariant: the first i bytes are the same.
-- Assumes nothing.
use mathlib.Core.Path.{◌≡◌, subst}
use native.Mathlib.Omega.{arith}
use Rattle.kiss_fields.specs.Took.{Agrees}
use Rattle.kiss_fields.proofs.Taking.{agrees_on}
use Rattle.kiss_fields.proofs.agree.Goals as goal

pub returns-then-text-at : goal.returns-then-text-at
returns-then-text-at c = record { within = omega (arith, c.min-most.ensures); inside = omega (arith, c.min-most.ensures); same = c.loop-i.invariant; ends = λ h l. c.if-text-at.true }

pub loop-i-preserved : goal.loop-i-preserved
loop-i-preserved c = agrees_on c.args.text.now c.args.at c.args.word.now c.loop-i.i (omega (arith, c.min-most.ensures)) (omega (arith, c.min-most.ensures)) c.loop-i.invariant c.if-text-at.false

pub returns : goal.returns
returns c =
    let e : c.loop-i.i ≡ c.min-most.result = omega arith in
    subst (Agrees c.args.text.now c.args.at c.args.word.now) e
    (record { within = omega (arith, c.min-most.ensures); inside = omega (arith, c.min-most.ensures); same = c.loop-i.invariant; ends = λ h l. absurd (omega (arith, c.min-most.ensures)) })
