-- `plain::stays::passing` meets its contract.
-- Assumes nothing.
use mathlib.Core.Path.{◌∙◌}
use native.Mathlib.Omega.{arith}
use Rattle.parts.specs.Beside.{beside}
use Rattle.parts.proofs.Beside.{same_size}
use Rattle.plain.proofs.Staying.{idling_start, idling_on, passes}
use Rattle.plain.proofs.stays.passing.Goals as goal

pub loop-j-init : goal.loop-j-init
loop-j-init c = idling_start

pub loop-j-preserved : goal.loop-j-preserved
loop-j-preserved c =
    idling_on c.loop-j-test.true c.idle-at.ensures c.loop-j.invariant

pub shape_of-t : goal.shape_of-t
unfolding beside
shape_of-t c =
    same_size (c.finish.ensures.kept ∙ c.loop-j.invariant.kept)

pub returns : goal.returns
returns c =
    passes c.begun-m.ensures c.with_acts.ensures c.made-at.ensures.1 c.loop-j.invariant (omega (arith, c.loop-j-test.false)) c.together-n.ensures c.passing.ensures c.finish.ensures
