-- `kiss_walk::check_rows` meets its contract.
-- Assumes nothing.
use Rattle.std.proofs.lemmas.Result.{err_from_is_err_and}
use Rattle.kiss_walk.proofs.Walks.{moves, stops, at-last, past_end, good-text}
use Rattle.kiss_law.proofs.Forms.{form-stops}
use Rattle.kiss_walk.proofs.check_rows.Goals as goal

pub returns-in_err-rows : goal.returns-in_err-rows
returns-in_err-rows c =
    let p = err_from_is_err_and c.from_residual.result c.from_residual.ensures.1 in
    rw (p.1, p.2) (form-stops c.args.text.now _ c.in_err-rows.ensures)

pub returns-in_err-last : goal.returns-in_err-last
returns-in_err-last c =
    let a = at-last c.args.text.now c.in_ok-rows.rows c.in_ok-rows.ensures in
    let p = err_from_is_err_and c.from_residual-in_err-last.result c.from_residual-in_err-last.ensures.1 in
    rw (p.1, p.2) (form-stops c.args.text.now _ (stops a c.in_err-last.ensures))

pub returns-then-last-text : goal.returns-then-last-text
returns-then-last-text c =
    let a = moves (at-last c.args.text.now c.in_ok-rows.rows c.in_ok-rows.ensures) c.in_ok-last.ensures in
    form-stops c.args.text.now c.in_ok-last.last.end (past_end c.args.text.now c.in_ok-last.last.end a.stands c.if-last-text.true)

pub returns : goal.returns
returns c =
    let a = moves (at-last c.args.text.now c.in_ok-rows.rows c.in_ok-rows.ensures) c.in_ok-last.ensures in
    good-text c.args.text.now c.args.headed c.in_ok-last.last.end c.requires a.stands c.if-last-text.false
