-- `kiss_walk::state_rows` meets its contract. The loop's invariant: the walk stands before the row of an input.
-- Assumes nothing.
use native.Mathlib.Omega.{arith}
use Rattle.kiss_walk.proofs.Walks.{rows-done}
use Rattle.kiss_walk.proofs.state_rows.Goals as goal

pub other_row-requires : goal.other_row-requires
other_row-requires c = (c.requires.0, omega (arith, c.loop-input-test.true, c.pow2-most.ensures.0), c.loop-input.invariant)

pub returns : goal.returns
returns c =
    let l = c.loop-input in
    rows-done c.args.z.inputs c.args.z.outputs c.args.z.states c.args.z.fit c.args.text.now c.args.state l.input c.in_ok-first.first.value l.end (omega (arith, c.loop-input-test.false, c.pow2-most.ensures.0)) l.invariant
