-- `spellings::stands` meets its contract: the row and its starts pass their test.
-- Assumes nothing.
use mathlib.Core.Path.{refl}
use Rattle.file_law.specs.Answer.{every}
use Rattle.language.specs.Words.{bytes, signs, reserved, same}
use Rattle.spellings.specs.Spelled.{spellings, spelling}
use Rattle.spellings.specs.Part.{part}
use Rattle.spellings.proofs.Tested.{tested}
use Rattle.spellings.proofs.stands.Goals as goal

pub stands_in-requires : goal.stands_in-requires
unfolding every bytes signs reserved same spellings spelling part
stands_in-requires c = (tested _ _ refl refl, c.requires)
