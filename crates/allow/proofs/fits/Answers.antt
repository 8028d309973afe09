-- `allow::fits` meets its contract: one law for each thing that a name can stand for.
-- Assumes nothing.
use mathlib.Core.Logic.{inl, inr}
use mathlib.Core.Path.{◌≡◌, ap}
use native.Mathlib.Omega.{arith}
use Rattle.allow.specs.Steps.{ask_number}
use Rattle.allow.proofs.Laws.{nothing-asked, asked-name, asked-other, asked-either, asked-neither}
use Rattle.allow.proofs.fits.Goals as goal

pub returns-in-Nothing : goal.returns-in-Nothing
returns-in-Nothing c = nothing-asked (ap ask_number c.in-Nothing.is)

pub returns-in-Name-matches : goal.returns-in-Name-matches
returns-in-Name-matches c = asked-name c.in-Name-matches.is c.meant.ensures

pub returns-in_default : goal.returns-in_default
returns-in_default c = asked-other (ap ask_number c.in-Name.is) c.in_default.not-Name c.meant.ensures

pub returns-in-Name-matches-2 : goal.returns-in-Name-matches-2
returns-in-Name-matches-2 c = elim c.in-Name-matches-2.is [
  | inl p ↦ let (i, j, q) = p in asked-name q c.meant-in-NameOrBit.ensures
  | inr p ↦ let (i, j, k, q) = p in asked-either (ap ask_number c.in-NameOrBit.is) q c.meant-in-NameOrBit.ensures
]

pub returns-in_default-matches : goal.returns-in_default-matches
returns-in_default-matches c = let e : ask_number c.args.asked ≡ 2 = ap ask_number c.in-NameOrBit.is in asked-neither (omega arith) c.in_default-matches.is c.meant-in-NameOrBit.ensures
