use Prim.Native.Nat.{ℕ}
use mathlib.Core.Path.{subst}
use Rattle.rows.specs.Nexts.{NextPut}
use Rattle.search.proofs.copy_next.Goals as goal

pub returns : goal.returns
returns c = let a = c.args in subst (λ (v : ℕ). NextPut a.area.now a.i a.x v c.put.new.area) c.read-j.ensures.0 c.put.ensures
