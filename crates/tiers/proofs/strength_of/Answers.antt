-- `tiers::strength_of` meets its contract: the table in code is the definition's.
-- Assumes nothing.
use mathlib.Core.Path.{sym, ◌∙◌, ap}
use native.Mathlib.Omega.{arith}
use Rattle.tiers.specs.Choose.{strength_number}
use Rattle.tiers.proofs.Chosen.{strength_past, strength_listed}
use Rattle.tiers.proofs.Coded.{none_some}
use Rattle.tiers.proofs.strength_of.Goals as goal

pub returns-in_err-tier : goal.returns-in_err-tier
returns-in_err-tier c = rw c.from_residual.ensures (sym (strength_past c.args.kind (omega (arith, c.from.ensures, c.in_err-tier.ensures.lookup.3))), none_some)

pub returns-then-tier : goal.returns-then-tier
returns-then-tier c =
    (sym c.if-tier.true ∙ strength_listed c.from.result c.args.kind c.in_ok-tier.field-0.now c.in_ok-tier.field-0.now c.in_ok-tier.ensures.lookup.0 c.from.ensures c.in_ok-tier.ensures.lookup.1, none_some)

pub returns-else-tier : goal.returns-else-tier
returns-else-tier c =
    (strength_listed c.from.result c.args.kind c.in_ok-tier.field-0.now c.in_ok-tier.field-0.now c.in_ok-tier.ensures.lookup.0 c.from.ensures c.in_ok-tier.ensures.lookup.1, λ e. c.if-tier.false (ap strength_number e))
