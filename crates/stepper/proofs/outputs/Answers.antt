-- `stepper::outputs` meets its contract: the answer about the shape is the refusal, or gives the sizes.
-- Assumes nothing.
use mathlib.Core.Path.{sym, ◌∙◌}
use Rattle.std.proofs.lemmas.Result.{err_from_is_err_and}
use Rattle.file_law.proofs.Steps.{sized, look_given, look-refused}
use Rattle.stepper.proofs.outputs.Goals as goal

pub look_in-requires : goal.look_in-requires
look_in-requires c = sized _ c.in_ok-size.ensures

pub returns-in_err-size : goal.returns-in_err-size
returns-in_err-size c = let a = c.args in
    let p = err_from_is_err_and c.from_residual.result c.from_residual.ensures.1 in
    rw (p.1, p.2) (sym (look-refused a.file.now a.state 0 _ _ c.in_err-size.ensures))

pub returns : goal.returns
returns c = let a = c.args in c.look_in.ensures ∙ sym (look_given a.file.now a.state 0 _ _ _ c.in_ok-size.ensures)
