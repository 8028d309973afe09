-- `kiss_walk::first_row` meets its contract: four fields in turn.
-- Assumes nothing.
use Rattle.std.proofs.lemmas.Result.{err_from_is_err_and}
use Rattle.kiss_walk.proofs.Walks.{moves, stops, at-row}
use Rattle.kiss_walk.proofs.first_row.Goals as goal

pub returns-in_err-head : goal.returns-in_err-head
returns-in_err-head c =
    let z = c.args.z in
    let a₁ = at-row z.inputs z.outputs z.states c.args.z.fit c.args.text.now c.args.state c.args.at c.requires.0 c.requires.1 in
    let p = err_from_is_err_and c.from_residual.result c.from_residual.ensures.1 in
    rw (p.1, p.2) (stops a₁ c.in_err-head.ensures)

pub returns-in_err-next : goal.returns-in_err-next
returns-in_err-next c =
    let z = c.args.z in
    let a₁ = at-row z.inputs z.outputs z.states c.args.z.fit c.args.text.now c.args.state c.args.at c.requires.0 c.requires.1 in
    let p = err_from_is_err_and c.from_residual-in_err-next.result c.from_residual-in_err-next.ensures.1 in
    rw (p.1, p.2) (stops (moves a₁ c.in_ok-head.ensures) c.in_err-next.ensures)

pub returns-in_err-outs : goal.returns-in_err-outs
returns-in_err-outs c =
    let z = c.args.z in
    let a₁ = at-row z.inputs z.outputs z.states c.args.z.fit c.args.text.now c.args.state c.args.at c.requires.0 c.requires.1 in
    let p = err_from_is_err_and c.from_residual-in_err-outs.result c.from_residual-in_err-outs.ensures.1 in
    rw (p.1, p.2) (stops (moves (moves a₁ c.in_ok-head.ensures) c.in_ok-next.ensures) c.in_err-outs.ensures)

pub returns-in_err-line : goal.returns-in_err-line
returns-in_err-line c =
    let z = c.args.z in
    let a₁ = at-row z.inputs z.outputs z.states c.args.z.fit c.args.text.now c.args.state c.args.at c.requires.0 c.requires.1 in
    let p = err_from_is_err_and c.from_residual-in_err-line.result c.from_residual-in_err-line.ensures.1 in
    rw (p.1, p.2) (stops (moves (moves (moves a₁ c.in_ok-head.ensures) c.in_ok-next.ensures) c.in_ok-outs.ensures) c.in_err-line.ensures)

pub returns : goal.returns
returns c =
    let z = c.args.z in
    let a₁ = at-row z.inputs z.outputs z.states c.args.z.fit c.args.text.now c.args.state c.args.at c.requires.0 c.requires.1 in
    (moves (moves (moves (moves a₁ c.in_ok-head.ensures) c.in_ok-next.ensures) c.in_ok-outs.ensures) c.in_ok-line.ensures).stands
