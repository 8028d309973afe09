-- `kiss_write::put_rows` meets its contract. The loop's invariant: the rows before a state are put.
-- Assumes nothing.
use Rattle.kiss_write.proofs.Held.{rows_more, rows_over}
use Rattle.kiss_put.proofs.Puts.{under_start, under_room, under_on, under_as, under_end}
use Prim.Native.Nat.{◌+◌}
use Rattle.file_law.specs.Reading.{stream_in}
use Rattle.kiss_write.specs.Held.{held_state, held_rows}
use Rattle.kiss_write.proofs.put_rows.Goals as goal

pub loop-state-init : goal.loop-state-init
loop-state-init c = under_start c.args.text.now c.args.at (held_rows (stream_in c.args.sound.file.now) c.args.sound.sizes.inputs c.args.sound.sizes.outputs c.args.sound.sizes.states 0) c.requires

pub put_state-end-requires : goal.put_state-end-requires
put_state-end-requires c = (c.loop-state-test.true, under_room (held_state (stream_in c.args.sound.file.now) c.args.sound.sizes.inputs c.args.sound.sizes.outputs c.loop-state.state 0) (held_rows (stream_in c.args.sound.file.now) c.args.sound.sizes.inputs c.args.sound.sizes.outputs c.args.sound.sizes.states (c.loop-state.state + 1)) c.requires (under_as (rows_more (stream_in c.args.sound.file.now) c.args.sound.sizes.inputs c.args.sound.sizes.outputs c.args.sound.sizes.states c.loop-state.state c.loop-state-test.true) c.loop-state.invariant))

pub loop-state-preserved : goal.loop-state-preserved
loop-state-preserved c = under_on (held_state (stream_in c.args.sound.file.now) c.args.sound.sizes.inputs c.args.sound.sizes.outputs c.loop-state.state 0) (held_rows (stream_in c.args.sound.file.now) c.args.sound.sizes.inputs c.args.sound.sizes.outputs c.args.sound.sizes.states (c.loop-state.state + 1)) c.requires (under_as (rows_more (stream_in c.args.sound.file.now) c.args.sound.sizes.inputs c.args.sound.sizes.outputs c.args.sound.sizes.states c.loop-state.state c.loop-state-test.true) c.loop-state.invariant) c.put_state-end.ensures

pub returns : goal.returns
returns c = under_end (under_as (rows_over (stream_in c.args.sound.file.now) c.args.sound.sizes.inputs c.args.sound.sizes.outputs c.args.sound.sizes.states c.loop-state.state c.loop-state-test.false) c.loop-state.invariant)
