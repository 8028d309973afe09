-- `kiss_walk::check` meets its contract.
-- Assumes nothing.
use Rattle.std.proofs.lemmas.Result.{err_from_is_err_and}
use Rattle.kiss_law.proofs.Forms.{form-stops}
use Rattle.kiss_walk.proofs.check.Goals as goal

pub returns-in_err-headed : goal.returns-in_err-headed
returns-in_err-headed c =
    let p = err_from_is_err_and c.from_residual.result c.from_residual.ensures.1 in
    rw (p.1, p.2) (form-stops c.args.text.now _ c.in_err-headed.ensures)
