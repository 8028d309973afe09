-- `kiss_walk::other_row` meets its contract: four fields in turn.
-- Assumes nothing.
use Rattle.std.proofs.lemmas.Result.{err_from_is_err_and}
use Rattle.kiss_walk.proofs.Walks.{moves, stops, at-other}
use Rattle.kiss_walk.proofs.other_row.Goals as goal

pub returns-in_err-head : goal.returns-in_err-head
returns-in_err-head c =
    let z = c.args.z in
    let a₁ = at-other z.inputs z.outputs z.states c.args.z.fit c.args.text.now c.args.state c.args.input c.args.w c.args.at c.requires.1 c.requires.2 in
    let p = err_from_is_err_and c.from_residual.result c.from_residual.ensures.1 in
    rw (p.1, p.2) (stops a₁ c.in_err-head.ensures)

pub returns-in_err-next : goal.returns-in_err-next
returns-in_err-next c =
    let z = c.args.z in
    let a₁ = at-other z.inputs z.outputs z.states c.args.z.fit c.args.text.now c.args.state c.args.input c.args.w c.args.at c.requires.1 c.requires.2 in
    let p = err_from_is_err_and c.from_residual-in_err-next.result c.from_residual-in_err-next.ensures.1 in
    rw (p.1, p.2) (stops (moves a₁ c.in_ok-head.ensures) c.in_err-next.ensures)

pub returns-in_err-shown : goal.returns-in_err-shown
returns-in_err-shown c =
    let z = c.args.z in
    let a₁ = at-other z.inputs z.outputs z.states c.args.z.fit c.args.text.now c.args.state c.args.input c.args.w c.args.at c.requires.1 c.requires.2 in
    let p = err_from_is_err_and c.from_residual-in_err-shown.result c.from_residual-in_err-shown.ensures.1 in
    rw (p.1, p.2) (stops (moves (moves a₁ c.in_ok-head.ensures) c.in_ok-next.ensures) c.in_err-shown.ensures)

pub returns-in_err-line : goal.returns-in_err-line
returns-in_err-line c =
    let z = c.args.z in
    let a₁ = at-other z.inputs z.outputs z.states c.args.z.fit c.args.text.now c.args.state c.args.input c.args.w c.args.at c.requires.1 c.requires.2 in
    let p = err_from_is_err_and c.from_residual-in_err-line.result c.from_residual-in_err-line.ensures.1 in
    rw (p.1, p.2) (stops (moves (moves (moves a₁ c.in_ok-head.ensures) c.in_ok-next.ensures) c.in_ok-shown.ensures) c.in_err-line.ensures)

pub returns : goal.returns
returns c =
    let z = c.args.z in
    let a₁ = at-other z.inputs z.outputs z.states c.args.z.fit c.args.text.now c.args.state c.args.input c.args.w c.args.at c.requires.1 c.requires.2 in
    (moves (moves (moves (moves a₁ c.in_ok-head.ensures) c.in_ok-next.ensures) c.in_ok-shown.ensures) c.in_ok-line.ensures).stands
