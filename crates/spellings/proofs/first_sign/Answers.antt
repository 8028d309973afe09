-- `spellings::first_sign` meets its contract: both tables pass their tests, and no byte below or above begins a sign.
-- Assumes nothing.
use mathlib.Core.Path.{refl}
use native.Mathlib.Omega.{arith}
use Rattle.file_law.specs.Answer.{every, first_not}
use Rattle.language.specs.Words.{bytes, signs, reserved}
use Rattle.spellings.specs.Spelled.{spellings, spelling}
use Rattle.spellings.specs.Search.{opening, like_from}
use Rattle.spellings.proofs.Entries.{first-signs, sign_low, sign_high}
use Rattle.spellings.proofs.first_sign.Goals as goal

pub returns-in_default : goal.returns-in_default
returns-in_default c = sign_low c.args.c (omega arith)

pub sign_in-requires : goal.sign_in-requires
unfolding every first_not bytes signs reserved spellings spelling opening like_from
sign_in-requires c = (first-signs 32 refl refl, omega arith, omega arith)

pub sign_in-requires-in-64-to-127 : goal.sign_in-requires-in-64-to-127
unfolding every first_not bytes signs reserved spellings spelling opening like_from
sign_in-requires-in-64-to-127 c = (first-signs 64 refl refl, omega arith, omega arith)

pub returns-in_default-2 : goal.returns-in_default-2
returns-in_default-2 c = sign_high c.args.c (omega arith)
