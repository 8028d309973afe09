-- `parts::found::width_size` meets its contract.
-- Assumes nothing.
use Rattle.names.proofs.Small.{power_high, min-high}
use native.Mathlib.Omega.{arith}
use Rattle.parts.proofs.found.width_size.Goals as goal

pub returns-then-w-gt31 : goal.returns-then-w-gt31
returns-then-w-gt31 c = min-high _ _ (omega (arith, power_high 32 c.args.w (omega arith)))
