-- `spellings::is_reserved` meets its contract: as many bytes, and the run begins with the word.
-- Assumes nothing.
use mathlib.Core.Path.{sym, ◌∙◌}
use Prim.Native.Nat.{◌-◌}
use native.Mathlib.Omega.{arith}
use borrow.Author.Tests.{ne_eqb}
use Rattle.spellings.specs.Spelled.{sign_count}
use Rattle.spellings.proofs.Fitting.{size_of_lem, fits_not, fits_word}
use Rattle.spellings.proofs.is_reserved.Goals as goal

pub returns-then-from-e : goal.returns-then-from-e
returns-then-from-e c =
    let a = c.args in
    fits_word a.s.now a.at a.e a.k c.requires.3 c.requires.1 c.requires.2 c.stands.ensures
    (sym (size_of_lem a.k c.requires.3) ∙ sym (c.requires.0.told (a.k - sign_count) (omega arith)) ∙ sym c.from.ensures ∙ c.if-from-e.true)

pub returns-else-from-e : goal.returns-else-from-e
returns-else-from-e c =
    let a = c.args in
    ne_eqb _ _ c.if-from-e.false
    ∙ fits_not a.s.now a.at a.e a.k c.requires.3 c.requires.1 c.requires.2 (λ e. c.if-from-e.false (c.from.ensures ∙ c.requires.0.told (a.k - sign_count) (omega arith) ∙ size_of_lem a.k c.requires.3 ∙ e))
