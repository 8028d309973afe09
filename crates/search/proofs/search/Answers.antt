use native.Mathlib.Omega.{arith}
use mathlib.Core.Path.{refl, ◌∙◌}
use Rattle.search.proofs.Turns.{all_done, start-going}
use Rattle.search.proofs.Holds.{start-holds}
use Rattle.search.proofs.search.Goals as goal

pub loop-i-init : goal.loop-i-init
loop-i-init c = let z = c.requires.1 in
    let h = start-holds c.args.tree.now c.args.task c.requires.0.fuel c.start-s.ensures in
    (start-going (record { few = z.few; inputs = z.inputs; area = omega (arith, z.area, c.clear.ensures.1) }) c.requires.2 h.canon h.holds c.add.ensures, refl)

pub returns : goal.returns
returns c = (all_done c.loop-i.invariant.0 c.loop-i-test.false, c.loop-i.invariant.1 ∙ c.add.ensures.long ∙ c.clear.ensures.1)
