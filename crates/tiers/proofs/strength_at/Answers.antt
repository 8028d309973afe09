-- `tiers::strength_at` meets its contract.
-- Assumes nothing.
use Rattle.words.specs.Kinds.{numbered, spellings}
use Rattle.language.specs.Words.{signs, reserved}
use Rattle.language.specs.Grammar.{binding}
use native.Mathlib.Omega.{arith}
use mathlib.Core.Path.{refl}
use Rattle.tiers.proofs.strength_at.Goals as goal

pub returns-in-3 : goal.returns-in-3
unfolding binding numbered spellings signs reserved
returns-in-3 c = rw c.in-3.is (refl, omega arith)
