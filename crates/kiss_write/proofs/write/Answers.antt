-- `kiss_write::write` meets its contract: what opening refuses is refused, what it accepts is written.
-- Assumes nothing.
use mathlib.Core.Path.{sym}
use Rattle.std.proofs.lemmas.Result.{err_from_is_err_and}
use Rattle.kiss_law.specs.Kiss as kiss
use Rattle.kiss_write.proofs.write.Goals as goal

pub returns-in_err-z : goal.returns-in_err-z
returns-in_err-z c =
    let p = err_from_is_err_and c.from_residual.result c.from_residual.ensures.1 in
    rw (p.1, p.2) (kiss.KissWrites.broken (sym c.in_err-z.ensures))
