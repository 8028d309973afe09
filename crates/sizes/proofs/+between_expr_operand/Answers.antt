-- `sizes::expr`, `sizes::between` and `sizes::operand` meet their contracts: one law at each way on. 16 for each level left, and two for each strength above, fall with each call; the text left falls with each operator.
-- Assumes nothing.
use mathlib.Core.Path.{refl, sym, ◌∙◌, ap}
use native.Mathlib.Omega.{arith}
use Rattle.tiers.proofs.Laws.{before-low, between-low, strength_known, before-skip, before-deep, before_on, between_start, between_ends, between_on, operand_bare, operand_none, operand-deep, operand_open, operand-int, bare_number, bare_truth}
use Rattle.tiers.proofs.Coded.{strength_is, strength_not}
use Rattle.sizes.specs.declared.Extent.{Extent}
use Rattle.sizes.proofs.Laws.{literal_under, truth_under, not_under, int_under, parens_under, joined_under}
use Rattle.sizes.proofs.+between_expr_operand.Goals as goal

pub between-expr-left-requires : goal.between-expr-left-requires
between-expr-left-requires t c = (omega (arith, c.decreases, (between-low c.args.tier c.requires.1)), record { near = c.requires.0.near; low = omega (arith, (between-low c.args.tier c.requires.1)); few = c.requires.0.few })

pub between-loop-u-init : goal.between-loop-u-init
between-loop-u-init t c = between_start c.expr-left.ensures.near

pub between-expr-right-requires : goal.between-expr-right-requires
between-expr-right-requires t c = (omega (arith, c.decreases, (between-low c.args.tier c.requires.1)), record { near = c.word_from-v.ensures.near; low = omega (arith, (between-low c.args.tier c.requires.1)); few = c.requires.0.few })

pub between-loop-u-smaller : goal.between-loop-u-smaller
between-loop-u-smaller t c = rw c.joined-left.ensures (omega (arith, c.loop-u.invariant.near.more (strength_known c.loop-u.left.word.kind c.args.tier (between-low c.args.tier c.requires.1) (strength_is c.strength_of.result _ c.args.tier c.strength_of.ensures.0 (sym c.ne.ensures ∙ c.if-ne.false))), c.loop-u.invariant.near.inside, c.word_from-v.ensures.later, c.expr-right.ensures.later))

pub between-loop-u-preserved : goal.between-loop-u-preserved
between-loop-u-preserved t c = between_on (between-low c.args.tier c.requires.1) (strength_is c.strength_of.result _ c.args.tier c.strength_of.ensures.0 (sym c.ne.ensures ∙ c.if-ne.false)) c.word_from-v.ensures c.expr-right.ensures (ap (λ (x : Extent). x.word) c.joined-left.ensures) (λ op x y e p q. joined_under op _ x y c.joined-left.ensures p q) c.loop-u.invariant

pub expr-expr-requires : goal.expr-expr-requires
expr-expr-requires t c = (omega (arith, c.decreases, (before-low c.args.tier _ (rw c.in-Before.is at c.strength_at.ensures))), record { near = c.requires.near; low = omega (arith, (before-low c.args.tier _ (rw c.in-Before.is at c.strength_at.ensures))); few = c.requires.few })

pub expr-returns-then-first-op : goal.expr-returns-then-first-op
expr-returns-then-first-op t c = before-skip (before-low c.args.tier _ (rw c.in-Before.is at c.strength_at.ensures)) (rw c.in-Before.is at c.strength_at.ensures) c.if-first-op.true c.expr.ensures

pub expr-returns-then-levels-eq0 : goal.expr-returns-then-levels-eq0
expr-returns-then-levels-eq0 t c = before-deep (before-low c.args.tier _ (rw c.in-Before.is at c.strength_at.ensures)) (rw c.in-Before.is at c.strength_at.ensures) c.if-first-op.false c.if-levels-eq0.true c.requires.near (ap (λ (x : Extent). x.word) c.leaf.ensures)

pub expr-returns-in-Between : goal.expr-returns-in-Between
expr-returns-in-Between t c = c.between.ensures

pub expr-returns-in-Operand : goal.expr-returns-in-Operand
expr-returns-in-Operand t c = c.operand.ensures

pub between-returns-then-ne : goal.between-returns-then-ne
between-returns-then-ne t c = between_ends (between-low c.args.tier c.requires.1) c.requires.1 (strength_not c.strength_of.result _ c.args.tier (between-low c.args.tier c.requires.1) c.strength_of.ensures.0 (sym c.ne.ensures ∙ c.if-ne.true)) c.expr-left.ensures c.loop-u.invariant

pub operand-returns-in-None : goal.operand-returns-in-None
operand-returns-in-None t c = operand_none c.requires.1 c.in-None.ensures refl c.requires.0.near (ap (λ (x : Extent). x.word) c.leaf.ensures)

pub operand-returns-in-Some-Name : goal.operand-returns-in-Some-Name
operand-returns-in-Some-Name t c = operand_bare c.requires.1 (rw c.in-Some-Name.field-0-is at c.in-Some-Name.ensures) c.name.ensures

pub operand-returns-in-Some-Number : goal.operand-returns-in-Some-Number
operand-returns-in-Some-Number t c = operand_bare c.requires.1 (rw c.in-Some-Number.field-0-is at c.in-Some-Number.ensures) (bare_number c.requires.0.near c.word_from.ensures refl (ap (λ (x : Extent). x.word) c.leaf-in-Some-Number.ensures) (literal_under c.leaf-in-Some-Number.ensures))

pub operand-returns-in-Some-Truth : goal.operand-returns-in-Some-Truth
operand-returns-in-Some-Truth t c = operand_bare c.requires.1 (rw c.in-Some-Truth.field-0-is at c.in-Some-Truth.ensures) (bare_truth c.requires.0.near c.word_from-in-Some-Truth.ensures c.in-Some-Truth.field-0-0 refl (ap (λ (x : Extent). x.word) c.leaf-in-Some-Truth.ensures) (truth_under c.leaf-in-Some-Truth.ensures))

pub operand-returns-then-levels-eq0 : goal.operand-returns-then-levels-eq0
operand-returns-then-levels-eq0 t c = operand-deep c.requires.1 (rw c.in-Some-Open.field-0-is at c.in-Some-Open.ensures) (λ z. omega arith) c.if-levels-eq0.true c.requires.0.near (ap (λ (x : Extent). x.word) c.leaf-then-levels-eq0.ensures)

pub operand-returns-then-levels-eq0-2 : goal.operand-returns-then-levels-eq0-2
operand-returns-then-levels-eq0-2 t c = operand-deep c.requires.1 (rw c.in-Some-Int.field-0-is at c.in-Some-Int.ensures) (λ z. omega arith) c.if-levels-eq0-2.true c.requires.0.near (ap (λ (x : Extent). x.word) c.leaf-then-levels-eq0-2.ensures)

pub operand-returns-else-levels-eq0 : goal.operand-returns-else-levels-eq0
operand-returns-else-levels-eq0 t c = operand_open c.requires.1 (rw c.in-Some-Open.field-0-is at c.in-Some-Open.ensures) refl c.requires.0.near c.word_from-second.ensures c.expr-g.ensures c.word_from-in-Some-Open.ensures (ap (λ (x : Extent). x.word) c.inside.ensures) (λ x p. parens_under c.inside.ensures p)

pub operand-returns-else-levels-eq0-2 : goal.operand-returns-else-levels-eq0-2
operand-returns-else-levels-eq0-2 t c = operand-int c.requires.1 (rw c.in-Some-Int.field-0-is at c.in-Some-Int.ensures) (λ z. omega arith) (λ z. omega arith) c.requires.0.near c.word_from-second-in-Some-Int.ensures c.word_from-third.ensures c.expr-g-in-Some-Int.ensures c.word_from-in-Some-Int.ensures (ap (λ (x : Extent). x.word) c.over.ensures) (λ x p. int_under c.over.ensures p)

pub expr-returns-else-levels-eq0 : goal.expr-returns-else-levels-eq0
expr-returns-else-levels-eq0 t c = before_on (before-low c.args.tier _ (rw c.in-Before.is at c.strength_at.ensures)) (rw c.in-Before.is at c.strength_at.ensures) c.if-first-op.false c.requires.near c.word_from-inner.ensures c.expr-g.ensures (ap (λ (x : Extent). x.word) c.over.ensures) (λ x p. not_under c.over.ensures p)
