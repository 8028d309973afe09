-- `source::area::prepare` meets its contract.
-- Assumes nothing.
use native.Mathlib.Omega.{arith}
use Rattle.source.proofs.Lent.{cleared, listed_back, prepared}
use Rattle.source.proofs.area.prepare.Goals as goal

pub returns : goal.returns
returns c =
    let z = cleared c.args.work.now c.fill.new.self c.requires.1 (c.fill.ensures.after (λ y h. h)) in
    prepared c.requires.1 z.0 z.1 (listed_back 16384 _ _ (omega (arith, z.0, c.requires.1)) c.declared-d.ensures) c.fill-2.ensures
