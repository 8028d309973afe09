use native.Mathlib.Omega.{arith}
use Prim.Native.Nat.{◌-◌}
use mathlib.Core.Path.{subst}
use Rattle.rows.specs.Area.{SameRow}
use Rattle.index.proofs.Walks.{walk_start, walk_on}
use Rattle.index.proofs.find.Goals as goal

pub loop-v-init : goal.loop-v-init
loop-v-init c = walk_start c.args.s c.hash-j.ensures.0 c.hash-j.ensures.1 c.half_at-v.ensures

pub loop-v-preserved : goal.loop-v-preserved
loop-v-preserved c = let a = c.args in
    walk_on c.requires.0 c.loop-v.invariant (c.from-i.result - 1) _ c.loop-v-test.true (omega (arith, c.from-i.ensures))
    (subst (SameRow a.area.now (c.from-i.result - 1) a.s) c.if-same.false c.same.ensures) c.half_at-v-in-loop-v.ensures
