-- `spellings::reserved` meets its contract: the tables pass their tests.
-- Assumes nothing.
use mathlib.Core.Path.{refl}
use native.Mathlib.Omega.{arith}
use Rattle.file_law.specs.Answer.{every, first_not}
use Rattle.language.specs.Words.{bytes, signs, reserved}
use Rattle.spellings.specs.Spelled.{spellings, spelling}
use Rattle.spellings.specs.Search.{opening, like_from, reserved_by, reserved_next, size}
use Rattle.spellings.proofs.Entries.{listed}
use Rattle.spellings.proofs.Fitting.{word_start, word_over}
use Rattle.spellings.proofs.reserved.Goals as goal

pub first_reserved-f-requires : goal.first_reserved-f-requires
unfolding every first_not bytes signs reserved spellings spelling opening like_from reserved_by
first_reserved-f-requires c = listed refl refl

pub returns-then-f-eq-SPELLINGS : goal.returns-then-f-eq-SPELLINGS
returns-then-f-eq-SPELLINGS c =
    let a = c.args in
    word_over a.s.now a.at a.e (omega arith) c.requires.0 (word_start a.s.now a.at a.e (omega arith) c.requires.0 c.first_reserved-f.ensures) (omega arith)

pub reserved_from-requires : goal.reserved_from-requires
unfolding every first_not bytes signs reserved spellings spelling opening like_from reserved_next size
reserved_from-requires c =
    (listed refl refl, listed refl refl, c.requires.0, c.requires.1, c.first_reserved-f.ensures)

pub returns : goal.returns
returns c = c.reserved_from.ensures
