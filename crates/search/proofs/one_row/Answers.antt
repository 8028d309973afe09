use native.Mathlib.Omega.{arith}
use Prim.Native.Nat.{◌<◌}
use mathlib.Core.Path.{◌∙◌}
use lib.ListN.{get_or, length-set}
use Rattle.clock.specs.Step.{state_from}
use Rattle.search.specs.Machine.{machine_in}
use Rattle.search.proofs.Turns.{as_before}
use Rattle.search.proofs.Masked.{masks_more, leads-alike, mask-alike}
use Rattle.search.proofs.one_row.Goals as goal

pub loop-x-preserved-in-Some : goal.loop-x-preserved-in-Some
loop-x-preserved-in-Some c = let m = machine_in c.args.tree.now c.args.task in
    let s = state_from c.read-s.result in
    let L = c.loop-x in
    let v = L.invariant in
    let small : L.x < 64 = omega (arith, c.loop-x-test.true, v.0.going.sized.inputs) in
    let p = c.in-Some.p in
    let e = c.in-Some.ensures in
    let q = c.copy_next.ensures in (
      as_before v.0 p e.0 c.loop-x-test.true (leads-alike m s L.masks L.x v.3 v.2 small p e) q,
      q.low.long ∙ v.1,
      length-set L.masks L.x _ ∙ v.2,
      masks_more m s L.masks L.x v.3 v.2 small (get_or L.masks p 0) (mask-alike m s L.masks L.x v.3 v.2 small p e),
    )
