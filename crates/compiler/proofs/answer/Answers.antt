-- `compiler::answer` meets its contract.
-- Assumes nothing.
use native.Mathlib.Omega.{arith}
use mathlib.Core.Path.{refl, sym, ◌∙◌}
use Rattle.std.proofs.lemmas.Result.{err_from_is_err_and}
use Rattle.source.proofs.Lent.{good_copied}
use Rattle.compiler.proofs.Ends.{ready_for, fault-ends}
use Rattle.compiler.proofs.answer.Goals as goal

pub returns-in_err-p : goal.returns-in_err-p
returns-in_err-p c =
    let p = err_from_is_err_and c.from_residual.result c.from_residual.ensures.1 in
    rw (p.1, p.2) (fault-ends c.args.source.now c.read.new.work _ c.in_err-p.ensures.0 c.requires, c.read.ensures.1)
