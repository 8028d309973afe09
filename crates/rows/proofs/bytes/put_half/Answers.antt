use native.Mathlib.Omega.{arith}
use mathlib.Core.Path.{◌∙◌}
use Rattle.rows.proofs.Changes.{half_put}
use Rattle.rows.proofs.bytes.put_half.Goals as goal

pub returns : goal.returns
returns c = let a = c.args in half_put a.area.now c.copy_from_slice.new.self a.at a.v (c.copy_from_slice.ensures.after ∙ c.to_le_bytes.ensures) c.requires (omega arith)
