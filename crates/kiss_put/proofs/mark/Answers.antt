-- `kiss_put::mark` meets its contract.
-- Assumes nothing.
use native.Mathlib.Omega.{arith}
use Rattle.kiss_put.proofs.Puts.{put_then}
use mathlib.Core.List.{[], ◌∷◌}
use Rattle.kiss_put.proofs.mark.Goals as goal

pub returns : goal.returns
returns c = put_then (32 ∷ []) (115 ∷ []) (omega (arith, c.requires)) c.byte-end.ensures c.byte.ensures
