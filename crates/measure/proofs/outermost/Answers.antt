-- `measure::outermost` meets its contract.
-- Assumes nothing.
use mathlib.Core.Path.{refl}
use native.Mathlib.Omega.{arith}
use Rattle.measure.proofs.Laws.{on_long}
use Rattle.measure.proofs.Outer.{outermost-came}
use Rattle.measure.proofs.outermost.Goals as goal

pub call-c-requires : goal.call-c-requires
call-c-requires c = let p = c.requires in (p.0, p.1, p.2)

pub shape_of-t : goal.shape_of-t
shape_of-t c = on_long (c.call-c.ensures 0 (omega arith)).on

pub returns : goal.returns
returns c =
    let p = c.requires in
    outermost-came p.3 p.0 p.1 p.2 c.start.ensures c.inside-v.ensures c.over.ensures c.call-c.ensures c.then_some.ensures refl
