-- `kiss_write::rows_length` meets its contract. The loop's invariant: the sum and the rows from a state on are all rows.
-- Assumes nothing.
use native.Mathlib.Omega.{arith}
use Rattle.kiss_write.proofs.Held.{rows_over, rows_short, state-length}
use mathlib.Core.Path.{ap}
use lib.ListN.{length}
use Rattle.file_law.specs.Reading.{stream_in}
use Rattle.kiss_write.proofs.rows_length.Goals as goal

pub state_length-sum-requires : goal.state_length-sum-requires
state_length-sum-requires c = c.loop-state-test.true

pub overflow_add-sum : goal.overflow_add-sum
overflow_add-sum c = omega (arith, c.state_length-sum.ensures, state-length (stream_in c.args.sound.file.now) c.args.sound.sizes.inputs c.args.sound.sizes.outputs c.args.sound.sizes.states c.loop-state.state c.loop-state-test.true, rows_short (stream_in c.args.sound.file.now) c.args.sound.sizes.inputs c.args.sound.sizes.outputs c.args.sound.sizes.states c.args.sound.holds.size)

pub loop-state-preserved : goal.loop-state-preserved
loop-state-preserved c = omega (arith, c.state_length-sum.ensures, state-length (stream_in c.args.sound.file.now) c.args.sound.sizes.inputs c.args.sound.sizes.outputs c.args.sound.sizes.states c.loop-state.state c.loop-state-test.true)

pub returns : goal.returns
returns c = let z = ap length (rows_over (stream_in c.args.sound.file.now) c.args.sound.sizes.inputs c.args.sound.sizes.outputs c.args.sound.sizes.states c.loop-state.state c.loop-state-test.false) in omega (arith, rows_short (stream_in c.args.sound.file.now) c.args.sound.sizes.inputs c.args.sound.sizes.outputs c.args.sound.sizes.states c.args.sound.holds.size)
