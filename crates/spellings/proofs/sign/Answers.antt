-- `spellings::sign` meets its contract: the tables pass their tests.
-- Assumes nothing.
use mathlib.Core.Path.{refl, ◌∙◌, ap}
use Rattle.file_law.specs.Answer.{every, first_not}
use Rattle.language.specs.Words.{bytes, signs, reserved}
use Rattle.spellings.specs.Spelled.{spellings, spelling, sign_count}
use Rattle.spellings.specs.Search.{opening, like_from, sign_next, second, found}
use Rattle.spellings.proofs.Entries.{listed}
use Rattle.spellings.proofs.Fitting.{sign_start, sign_over}
use Rattle.spellings.proofs.sign.Goals as goal

pub returns-then-f-ge-LONG_SIGNS : goal.returns-then-f-ge-LONG_SIGNS
returns-then-f-ge-LONG_SIGNS c =
    let a = c.args in
    c.found.ensures ∙ ap (found sign_count) (sign_over a.s.now a.at c.requires (sign_start a.s.now a.at c.requires c.first_sign-f.ensures) c.if-f-ge-LONG_SIGNS.true)

pub sign_from-requires : goal.sign_from-requires
unfolding every first_not bytes signs reserved spellings spelling opening like_from sign_next second
sign_from-requires c = (listed refl refl, listed refl refl, c.requires, c.first_sign-f.ensures)
