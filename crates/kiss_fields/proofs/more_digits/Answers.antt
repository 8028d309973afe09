-- `kiss_fields::more_digits` meets its contract. The loop's invariant: the digits of a number below n stand up to `end`.
-- Assumes nothing.
use Prim.Native.Nat.{◌+◌, ◌*◌}
use native.Mathlib.Omega.{arith}
use Rattle.kiss_fields.proofs.Taking.{blanked, so_on, so-found, so-stop, so_zero}
use mathlib.Core.Path.{◌≡◌, subst}
use lib.ListN.{length}
use Rattle.kiss_fields.specs.Took.{Left}
use Rattle.kiss_fields.proofs.more_digits.Goals as goal

pub loop-end-init : goal.loop-end-init
loop-end-init c = (c.requires.1, c.requires.2, λ b z. so_zero c.args.n c.requires.0 c.args.text.now c.args.at c.args.first (c.args.at + 1) c.requires.2 c.requires.1 b z)

pub returns-then-b-eq32 : goal.returns-then-b-eq32
returns-then-b-eq32 c = so-found c.args.n c.requires.0 c.args.text.now c.args.at c.loop-end.value c.loop-end.end c.loop-end.invariant.1 c.loop-end.invariant.0 c.loop-end-test.true c.if-b-eq32.true

pub returns-in_default : goal.returns-in_default
returns-in_default c = so-stop c.args.n c.requires.0 c.args.text.now c.args.at c.loop-end.value c.loop-end.end c.loop-end.invariant.1 c.loop-end.invariant.0 (λ l. (c.if-b-eq32.false, λ d h g p. let q = c.in_default.ensures (omega arith) in absurd (omega arith)))

pub returns-then-n-value : goal.returns-then-n-value
returns-then-n-value c = so-stop c.args.n c.requires.0 c.args.text.now c.args.at c.loop-end.value c.loop-end.end c.loop-end.invariant.1 c.loop-end.invariant.0 (λ l. (c.if-b-eq32.false, λ d h g p. let q = c.in-Some.ensures.1 in omega (arith, c.if-n-value.true)))

pub loop-end-preserved : goal.loop-end-preserved
loop-end-preserved c =
    let l = c.loop-end in
    let d = c.in-Some.d in
    let r = so_on c.args.text.now c.args.at l.value l.end d l.invariant.1 c.loop-end-test.true c.in-Some.ensures.0 c.in-Some.ensures.1 (omega arith) (omega (arith, c.if-n-value.false, c.requires.0)) in
    (c.if-n-value.false, r, λ b z. so_zero c.args.n c.requires.0 c.args.text.now c.args.at (10 * l.value + d) (l.end + 1) r c.if-n-value.false b z)

pub returns : goal.returns
returns c =
    let e : c.loop-end.end ≡ length c.args.text.now = omega (arith, c.loop-end.auto.end-end c.requires.2.inside) in
    subst (Left c.args.n blanked c.args.text.now c.args.at) e
    (so-stop c.args.n c.requires.0 c.args.text.now c.args.at c.loop-end.value c.loop-end.end c.loop-end.invariant.1 c.loop-end.invariant.0 (λ l. absurd (omega (arith, e))))
