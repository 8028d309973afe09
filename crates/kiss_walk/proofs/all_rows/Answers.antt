-- `kiss_walk::all_rows` meets its contract. The loop's invariant: the walk stands before the rows of a state.
-- Assumes nothing.
use Rattle.kiss_walk.proofs.Walks.{all_done}
use Rattle.kiss_walk.proofs.all_rows.Goals as goal

pub returns : goal.returns
returns c = all_done c.args.z.inputs c.args.z.outputs c.args.z.states c.args.z.fit c.args.text.now c.loop-state.state c.loop-state.end c.loop-state-test.false c.loop-state.invariant
