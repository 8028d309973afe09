-- `stream::sizes::row_at` meets its contract: the sizes bound the product.
-- Assumes nothing.
use mathlib.Core.Path.{ap}
use Prim.Native.Nat.{ℕ, ◌+◌, ◌*◌, ◌≤◌}
use native.Mathlib.Omega.{arith}
use Rattle.file_law.proofs.Tests.{rows-small}
use Rattle.stream.proofs.sizes.row_at.Goals as goal
use Rattle.stream.proofs.sizes.row_at.Goals.{After-pow2}

small : (c : After-pow2) → c.args.state * (2 + 2 * c.pow2.result) ≤ 33280
small c = rw c.pow2.ensures.0 (rows-small c.args.k c.args.state (omega arith) (omega arith))

pub returns : goal.returns
returns c = (ap (λ (x : ℕ). 4 + c.args.state * (2 + 2 * x)) c.pow2.ensures.0, omega (arith, small (goal.at.returns c).After-pow2))
