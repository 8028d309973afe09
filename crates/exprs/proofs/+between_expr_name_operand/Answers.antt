use mathlib.Core.Path.{refl, sym, ◌∙◌, ap}
use native.Mathlib.Omega.{arith}
use Rattle.frames_law.specs.Frames.{told_at}
use Rattle.hand.specs.declared.Here.{Here}
use Rattle.parts.specs.Beside.{beside}
use Rattle.frames.specs.declared.Under.{Under}
use Rattle.frames.proofs.Following.{meant_deep}
use Rattle.exprs.proofs.Laws.{came-long, before-skip, before-deep, before_on, between_start, between_ends, between_on, operand_plain, operand_none, operand-deep, operand_open, operand-int, plain_name}
use Rattle.tiers.proofs.Coded.{strength_is, strength_not}
use Rattle.tiers.proofs.Laws.{before-low, between-low, strength_known}
use Rattle.exprs.proofs.Formals.{own_name, formal-read, formal-past}
use Rattle.exprs.proofs.+between_expr_name_operand.Goals as goal

pub between-expr-left-requires : goal.between-expr-left-requires
between-expr-left-requires t c = (omega (arith, c.decreases, (between-low c.args.tier c.requires.1)), record { near = c.requires.0.near; listed = c.requires.0.listed; low = omega (arith, (between-low c.args.tier c.requires.1)); few = c.requires.0.few })

pub between-loop-u-init : goal.between-loop-u-init
between-loop-u-init t c = (between_start (rw (← c.expr-left.ensures.kept) at c.expr-left.ensures), refl)

pub between-returns-then-ne : goal.between-returns-then-ne
between-returns-then-ne t c = between_ends (between-low c.args.tier c.requires.1) c.requires.1 (strength_not c.strength_of.result _ c.args.tier (between-low c.args.tier c.requires.1) c.strength_of.ensures.0 (sym c.ne.ensures ∙ c.if-ne.true)) c.expr-left.ensures (rw c.expr-left.ensures.kept at c.loop-u.invariant.0)

pub between-word_from-v-requires : goal.between-word_from-v-requires
between-word_from-v-requires t c = (c.requires.0.near.short, c.loop-u.invariant.0.near.inside)

pub between-expr-right-requires : goal.between-expr-right-requires
between-expr-right-requires t c = (omega (arith, c.decreases, (between-low c.args.tier c.requires.1)), record { near = c.word_from-v.ensures.near; listed = rw (c.loop-u.invariant.0.kept ∙ c.expr-left.ensures.kept) c.requires.0.listed; low = omega (arith, (between-low c.args.tier c.requires.1)); few = c.requires.0.few })

pub between-loop-u-smaller : goal.between-loop-u-smaller
between-loop-u-smaller t c = omega (arith, c.loop-u.invariant.0.near.more (strength_known c.loop-u.left.word.kind c.args.tier (between-low c.args.tier c.requires.1) (strength_is c.strength_of.result _ c.args.tier c.strength_of.ensures.0 (sym c.ne.ensures ∙ c.if-ne.false))), c.word_from-v.ensures.later, c.expr-right.ensures.later, c.expr-right.ensures.near.on, c.expr-right.ensures.near.inside, ap (λ (w : Here). w.place) c.joined-left.ensures.0)

pub between-loop-u-preserved : goal.between-loop-u-preserved
between-loop-u-preserved t c = (between_on c.told-at.result c.loop-u.invariant.0 (between-low c.args.tier c.requires.1) (strength_is c.strength_of.result _ c.args.tier c.strength_of.ensures.0 (sym c.ne.ensures ∙ c.if-ne.false)) c.word_from-v.ensures (c.told-at.ensures ∙ ap (told_at c.args.u.at) c.loop-u.invariant.1) (rw c.loop-u.invariant.0.kept at c.expr-right.ensures) c.counted-m.ensures c.joined-left.ensures.0 c.joined-left.ensures.1, refl)

pub expr-expr-requires : goal.expr-expr-requires
expr-expr-requires t c = (omega (arith, c.decreases, (before-low c.args.tier _ (rw c.in-Before.is at c.strength_at.ensures))), record { near = c.requires.near; listed = c.requires.listed; low = omega (arith, (before-low c.args.tier _ (rw c.in-Before.is at c.strength_at.ensures))); few = c.requires.few })

pub expr-shape_of-t-then-first-op : goal.expr-shape_of-t-then-first-op
expr-shape_of-t-then-first-op t c = came-long c.expr.ensures

pub expr-returns-then-first-op : goal.expr-returns-then-first-op
expr-returns-then-first-op t c = before-skip (before-low c.args.tier _ (rw c.in-Before.is at c.strength_at.ensures)) (rw c.in-Before.is at c.strength_at.ensures) c.if-first-op.true c.expr.ensures

pub expr-returns-then-levels-eq0 : goal.expr-returns-then-levels-eq0
expr-returns-then-levels-eq0 t c = before-deep (before-low c.args.tier _ (rw c.in-Before.is at c.strength_at.ensures)) (rw c.in-Before.is at c.strength_at.ensures) c.if-first-op.false c.if-levels-eq0.true c.requires.near c.nothing.ensures

pub expr-word_from-inner-requires : goal.expr-word_from-inner-requires
expr-word_from-inner-requires t c = (c.requires.near.short, c.requires.near.inside)

pub expr-expr-g-requires : goal.expr-expr-g-requires
expr-expr-g-requires t c = (omega (arith, c.decreases, c.if-levels-eq0.false), record { near = c.word_from-inner.ensures.near; listed = c.requires.listed; low = c.requires.low; few = omega (arith, c.requires.few) })

pub expr-returns-else-levels-eq0 : goal.expr-returns-else-levels-eq0
expr-returns-else-levels-eq0 t c = before_on c.told-p.result (before-low c.args.tier _ (rw c.in-Before.is at c.strength_at.ensures)) (rw c.in-Before.is at c.strength_at.ensures) c.if-first-op.false c.requires.near c.word_from-inner.ensures c.told-p.ensures c.expr-g.ensures c.counted-n.ensures c.negated.ensures.0 c.negated.ensures.1

pub expr-between-requires : goal.expr-between-requires
expr-between-requires t c = (omega (arith, c.decreases), (c.requires, rw c.in-Between.is at c.strength_at.ensures))

pub expr-shape_of-t-in-Between : goal.expr-shape_of-t-in-Between
expr-shape_of-t-in-Between t c = came-long c.between.ensures

pub expr-returns-in-Between : goal.expr-returns-in-Between
expr-returns-in-Between t c = c.between.ensures

pub expr-operand-requires : goal.expr-operand-requires
expr-operand-requires t c = (omega (arith, c.decreases), (c.requires, rw c.in-Operand.is at c.strength_at.ensures))

pub expr-shape_of-t-in-Operand : goal.expr-shape_of-t-in-Operand
expr-shape_of-t-in-Operand t c = came-long c.operand.ensures

pub expr-returns-in-Operand : goal.expr-returns-in-Operand
expr-returns-in-Operand t c = c.operand.ensures

pub name-word_from-after-requires : goal.name-word_from-after-requires
name-word_from-after-requires t c = (c.requires.near.short, c.requires.near.inside)

pub name-bit-requires : goal.name-bit-requires
name-bit-requires t c = (c.requires, c.word_from-after.ensures, c.if-after-eq-LEFT.true)

pub name-returns-then-after-eq-LEFT : goal.name-returns-then-after-eq-LEFT
name-returns-then-after-eq-LEFT t c = c.bit.ensures

pub name-find-v-requires : goal.name-find-v-requires
unfolding beside
name-find-v-requires t c = c.requires.listed

pub name-returns-in_default : goal.name-returns-in_default
name-returns-in_default t c = plain_name c.requires.near c.word_from-after.ensures (own_name _ _ c.args.u _ c.in_default.ensures) c.if-after-eq-LEFT.false c.find-v.ensures c.named.ensures.0 (rw c.told.ensures at c.named.ensures.1)

pub name-returns-then-from-s : goal.name-returns-then-from-s
name-returns-then-from-s t c = formal-past _ _ c.args.u c.requires.near c.word_from-after.ensures c.if-after-eq-LEFT.false c.in-Some.ensures c.nothing.ensures (rw c.from.ensures at c.if-from-s.true)

pub name-word_from-requires : goal.name-word_from-requires
name-word_from-requires t c = (c.requires.near.short, rw c.from.ensures at c.if-from-s.false)

pub name-expr-g-requires : goal.name-expr-g-requires
name-expr-g-requires t c = (omega (arith, c.decreases, ap (λ (v : Under). v.depth) c.caller-around.ensures, meant_deep _ _ c.args.u _ _ c.in-Some.ensures), record { near = c.word_from.ensures.near; listed = c.requires.listed; low = omega arith; few = omega arith })

pub name-shape_of-t : goal.name-shape_of-t
name-shape_of-t t c = came-long c.expr-g.ensures

pub name-returns : goal.name-returns
name-returns t c = formal-read _ _ c.args.u c.requires.near c.word_from-after.ensures c.if-after-eq-LEFT.false c.in-Some.ensures c.behind.ensures.0 c.word_from.ensures c.caller-around.ensures c.expr-g.ensures refl c.behind.ensures.1

pub operand-returns-in-Some-Name : goal.operand-returns-in-Some-Name
operand-returns-in-Some-Name t c = operand_plain c.requires.1 (rw c.in-Some-Name.field-0-is at c.in-Some-Name.ensures) c.name.ensures

pub operand-returns-in-Some-Number : goal.operand-returns-in-Some-Number
operand-returns-in-Some-Number t c = operand_plain c.requires.1 (rw c.in-Some-Number.field-0-is at c.in-Some-Number.ensures) (c.number.ensures _)

pub operand-returns-in-Some-Truth : goal.operand-returns-in-Some-Truth
operand-returns-in-Some-Truth t c = operand_plain c.requires.1 (rw c.in-Some-Truth.field-0-is at c.in-Some-Truth.ensures) (c.truth.ensures _)

pub operand-returns-then-levels-eq0 : goal.operand-returns-then-levels-eq0
operand-returns-then-levels-eq0 t c = operand-deep c.requires.1 (rw c.in-Some-Open.field-0-is at c.in-Some-Open.ensures) (λ z. omega arith) c.if-levels-eq0.true c.requires.0.near c.nothing-then-levels-eq0.ensures

pub operand-returns-then-levels-eq0-2 : goal.operand-returns-then-levels-eq0-2
operand-returns-then-levels-eq0-2 t c = operand-deep c.requires.1 (rw c.in-Some-Int.field-0-is at c.in-Some-Int.ensures) (λ z. omega arith) c.if-levels-eq0-2.true c.requires.0.near c.nothing-then-levels-eq0-2.ensures

pub operand-returns-else-levels-eq0 : goal.operand-returns-else-levels-eq0
operand-returns-else-levels-eq0 t c = operand_open c.requires.1 (rw c.in-Some-Open.field-0-is at c.in-Some-Open.ensures) refl c.requires.0.near c.word_from-second.ensures c.expr-g.ensures c.word_from.ensures c.behind.ensures.0 c.behind.ensures.1

pub operand-returns-else-levels-eq0-2 : goal.operand-returns-else-levels-eq0-2
operand-returns-else-levels-eq0-2 t c = operand-int c.told-p.result c.requires.1 (rw c.in-Some-Int.field-0-is at c.in-Some-Int.ensures) (λ z. omega arith) (λ z. omega arith) c.requires.0.near c.word_from-second-in-Some-Int.ensures c.word_from-third.ensures c.told-p.ensures c.expr-g-in-Some-Int.ensures c.counted-n.ensures c.word_from-in-Some-Int.ensures c.int_of.ensures.0 c.int_of.ensures.1

pub operand-returns-in-None : goal.operand-returns-in-None
operand-returns-in-None t c = operand_none c.requires.1 c.in-None.ensures refl c.requires.0.near c.nothing.ensures
