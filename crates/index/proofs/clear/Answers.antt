use native.Mathlib.Omega.{arith}
use mathlib.Core.Path.{sym}
use lib.Seq.{length-take-le}
use Rattle.index.proofs.Kept.{no_index}
use Rattle.index.proofs.clear.Goals as goal

pub slice_bounds-fill-end-2 : goal.slice_bounds-fill-end-2
slice_bounds-fill-end-2 c = sym (length-take-le _ c.args.area.now (omega arith))

pub returns : goal.returns
returns c = no_index c.args.area.now c.fill.new.self c.requires (c.fill.ensures.after (λ y e. e))
