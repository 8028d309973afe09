-- `kiss_fields::size` meets its contract. The loop's invariant: the best of the lines before a is known, and none of them stands here.
-- Assumes nothing.
use native.Mathlib.Omega.{arith}
use Rattle.kiss_fields.proofs.Taking.{nearest_start, nearest_on, left_nearest, stood-near, unit_room}
use Rattle.kiss_fields.specs.Took.{Nearest}
use Prim.Native.Nat.{ℕ, ◌+◌, ◌*◌}
use mathlib.Core.Path.{sym, subst}
use lib.ListN.{drop, length-drop}
use Rattle.kiss_law.specs.Text.{size_line}
use Rattle.kiss_put.proofs.Puts.{length-line}
use Rattle.kiss_fields.proofs.size.Goals as goal

pub loop-a-init : goal.loop-a-init
loop-a-init c = nearest_start c.args.most (λ (a : ℕ). size_line c.args.letter ((a + 1) * c.args.unit)) c.args.text.now c.args.at c.requires.1 (omega (arith, length-line c.args.letter ((0 + 1) * c.args.unit)))

pub overflow_mul-a : goal.overflow_mul-a
overflow_mul-a c = omega (arith, unit_room c.loop-a.a c.args.unit c.args.most c.loop-a-test.true, c.requires.4)

pub size_line-near-requires : goal.size_line-near-requires
size_line-near-requires c = (c.requires.0, omega (arith, unit_room c.loop-a.a c.args.unit c.args.most c.loop-a-test.true, c.requires.4))

pub overflow_add-result : goal.overflow_add-result
overflow_add-result c = omega (arith, c.size_line-near.ensures.0.inside, c.size_line-near.ensures.0.within, c.size_line-near.ensures.1, c.if-near.true)

pub returns-then-near : goal.returns-then-near
returns-then-near c = stood-near c.args.most (λ (a : ℕ). size_line c.args.letter ((a + 1) * c.args.unit)) c.args.text.now c.args.at c.loop-a.a c.size_line-near.result.same c.size_line-near.result.len c.loop-a-test.true c.size_line-near.ensures.0 (omega (arith, c.size_line-near.ensures.1, c.if-near.true)) c.size_line-near.ensures.1

pub loop-a-preserved : goal.loop-a-preserved
loop-a-preserved c = subst (λ (e : ℕ). Nearest (c.loop-a.a + 1) c.args.most (λ (a : ℕ). size_line c.args.letter ((a + 1) * c.args.unit)) (drop c.args.at c.args.text.now) e) (sym c.max-best.ensures) (nearest_on c.args.most (λ (a : ℕ). size_line c.args.letter ((a + 1) * c.args.unit)) c.args.text.now c.args.at c.loop-a.a c.loop-a.best c.size_line-near.result.same c.loop-a-test.true c.loop-a.invariant c.size_line-near.ensures.0 (omega (arith, c.size_line-near.ensures.1, c.if-near.false)))

pub overflow_add-result-2 : goal.overflow_add-result-2
overflow_add-result-2 c = omega (arith, c.loop-a.invariant.inside, length-drop c.args.at c.args.text.now, c.requires.0)

pub returns : goal.returns
returns c = left_nearest c.args.most (λ (a : ℕ). size_line c.args.letter ((a + 1) * c.args.unit)) c.args.text.now c.args.at c.loop-a.a c.loop-a.best c.loop-a-test.false c.loop-a.invariant
