-- `spellings::first_reserved` meets its contract: the table has the small letters, and no other byte begins one.
-- Assumes nothing.
use mathlib.Core.Path.{◌∙◌, ap}
use native.Mathlib.Omega.{arith}
use Rattle.spellings.specs.Search.{reserved_by}
use Rattle.spellings.proofs.Entries.{reserved-low, reserved-high, reserved_by_lem}
use Rattle.spellings.proofs.first_reserved.Goals as goal

pub returns-in_default : goal.returns-in_default
returns-in_default c = reserved-low c.args.c (omega arith)

pub returns-in-97-to-122 : goal.returns-in-97-to-122
returns-in-97-to-122 c =
    c.from-in-97-to-122.ensures ∙ c.requires.told c.from.result (omega arith) ∙ ap reserved_by c.from.ensures ∙ reserved_by_lem c.args.c (omega arith)

pub returns-in_default-2 : goal.returns-in_default-2
returns-in_default-2 c = reserved-high c.args.c (omega arith)
