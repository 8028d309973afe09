-- `source::read` meets its contract.
-- Assumes nothing.
use mathlib.Core.Path.{refl, ◌∙◌}
use Rattle.std.proofs.lemmas.Result.{err_from_is_err_and}
use Rattle.told_law.proofs.Entered.{refused-reads}
use Rattle.source.proofs.Lent.{all-long}
use Rattle.source.proofs.Whole.{refused-told, good-told}
use Rattle.source.proofs.read.Goals as goal

pub returns-in_err-check : goal.returns-in_err-check
returns-in_err-check c = let p = err_from_is_err_and c.from_residual.result c.from_residual.ensures.1 in rw (p.1, p.2) (refused-reads c.args.s.now _ c.in_err-check.ensures, refl)

pub returns-in_err-settle : goal.returns-in_err-settle
returns-in_err-settle c =
    let p = err_from_is_err_and c.from_residual-in_err-settle.result c.from_residual-in_err-settle.ensures.1 in
    rw (p.1, p.2) (refused-told c.in_ok-check.ensures c.prepare-d.ensures c.own.ensures c.body-b.ensures c.settle.result c.settle.ensures c.min.ensures c.min-2.ensures _ c.in_err-settle.was, all-long c.body-b.ensures ∙ c.prepare-d.ensures.long)

pub returns : goal.returns
returns c =
    (rw (c.from.ensures, c.from-2.ensures) (good-told c.in_ok-check.ensures c.prepare-d.ensures c.own.ensures c.body-b.ensures c.settle.result c.settle.ensures c.min.ensures c.min-2.ensures c.in_ok-settle.was c.requires), all-long c.body-b.ensures ∙ c.prepare-d.ensures.long)
