-- `spellings::sign_fits` meets its contract: a sign has one byte or two.
-- Assumes nothing.
use mathlib.Core.Path.{◌∙◌}
use native.Mathlib.Omega.{arith}
use borrow.Author.Tests.{eq-eqb}
use Rattle.spellings.proofs.Fitting.{one-fits, two_fit}
use Rattle.spellings.proofs.sign_fits.Goals as goal

pub returns-then-d-eq0 : goal.returns-then-d-eq0
returns-then-d-eq0 c =
    let a = c.args in
    eq-eqb _ _ c.if-d-eq0.true ∙ one-fits a.k (omega arith) _ (c.requires.0.told a.k c.requires.1) a.s.now a.at c.requires.2 c.requires.3 c.if-d-eq0.true

pub returns-else-d-eq0 : goal.returns-else-d-eq0
returns-else-d-eq0 c =
    let a = c.args in
    two_fit a.k (omega arith) _ (c.requires.0.told a.k c.requires.1) a.s.now a.at c.requires.2 c.requires.3 c.if-d-eq0.false _ c.byte_at.ensures
