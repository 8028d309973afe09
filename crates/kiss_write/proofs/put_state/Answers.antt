-- `kiss_write::put_state` meets its contract. The loop's invariant: the rows before an input are put.
-- Assumes nothing.
use native.Mathlib.Omega.{arith}
use Rattle.kiss_write.proofs.Held.{state_over, next-room, outputs-room, state-next}
use Rattle.kiss_put.proofs.Puts.{under_start, under_room, under_on, under_as, under_end}
use Prim.Native.Nat.{◌+◌}
use mathlib.Core.List.{◌++◌}
use Rattle.file_law.specs.Reading.{stream_in}
use Rattle.kiss_law.specs.Text.{row_head, row_tail}
use Rattle.kiss_write.specs.Held.{held_state}
use Rattle.kiss_write.proofs.put_state.Goals as goal

pub outputs_at-outs-requires : goal.outputs_at-outs-requires
outputs_at-outs-requires c = outputs-room c.args.state c.args.sound.holds c.requires.0

pub pow2-most-requires : goal.pow2-most-requires
pow2-most-requires c = omega (arith, c.args.sound.holds.size.inputs, c.args.sound.holds.size.outputs, c.args.sound.holds.size.states)

pub loop-input-init : goal.loop-input-init
loop-input-init c = under_start c.args.text.now c.args.at (held_state (stream_in c.args.sound.file.now) c.args.sound.sizes.inputs c.args.sound.sizes.outputs c.args.state 0) c.requires.1

pub next_at-next-requires : goal.next_at-next-requires
next_at-next-requires c = next-room c.args.state c.loop-input.input c.args.sound.holds c.requires.0 (omega (arith, c.loop-input-test.true, c.pow2-most.ensures.0))

pub row_head-head-requires : goal.row_head-head-requires
row_head-head-requires c = (omega (arith, c.requires.0, c.args.sound.holds.size.inputs, c.args.sound.holds.size.outputs, c.args.sound.holds.size.states), under_room (row_head c.args.sound.sizes.inputs c.args.state c.loop-input.input) (row_tail c.args.sound.sizes.outputs c.outputs_at-outs.result c.next_at-next.result ++ held_state (stream_in c.args.sound.file.now) c.args.sound.sizes.inputs c.args.sound.sizes.outputs c.args.state (c.loop-input.input + 1)) c.requires.1 (under_as (state-next (stream_in c.args.sound.file.now) c.args.sound.sizes.inputs c.args.sound.sizes.outputs c.args.state c.loop-input.input c.outputs_at-outs.result c.next_at-next.result c.outputs_at-outs.ensures.0 c.next_at-next.ensures.0 (omega (arith, c.loop-input-test.true, c.pow2-most.ensures.0))) c.loop-input.invariant))

pub row_tail-end-requires : goal.row_tail-end-requires
row_tail-end-requires c = (omega (arith, c.args.sound.holds.size.inputs, c.args.sound.holds.size.outputs, c.args.sound.holds.size.states, c.next_at-next.ensures.0, c.args.sound.holds.inside c.args.state c.loop-input.input c.requires.0 (omega (arith, c.loop-input-test.true, c.pow2-most.ensures.0))), under_room (row_tail c.args.sound.sizes.outputs c.outputs_at-outs.result c.next_at-next.result) (held_state (stream_in c.args.sound.file.now) c.args.sound.sizes.inputs c.args.sound.sizes.outputs c.args.state (c.loop-input.input + 1)) c.requires.1 (under_on (row_head c.args.sound.sizes.inputs c.args.state c.loop-input.input) (row_tail c.args.sound.sizes.outputs c.outputs_at-outs.result c.next_at-next.result ++ held_state (stream_in c.args.sound.file.now) c.args.sound.sizes.inputs c.args.sound.sizes.outputs c.args.state (c.loop-input.input + 1)) c.requires.1 (under_as (state-next (stream_in c.args.sound.file.now) c.args.sound.sizes.inputs c.args.sound.sizes.outputs c.args.state c.loop-input.input c.outputs_at-outs.result c.next_at-next.result c.outputs_at-outs.ensures.0 c.next_at-next.ensures.0 (omega (arith, c.loop-input-test.true, c.pow2-most.ensures.0))) c.loop-input.invariant) c.row_head-head.ensures))

pub loop-input-preserved : goal.loop-input-preserved
loop-input-preserved c = under_on (row_tail c.args.sound.sizes.outputs c.outputs_at-outs.result c.next_at-next.result) (held_state (stream_in c.args.sound.file.now) c.args.sound.sizes.inputs c.args.sound.sizes.outputs c.args.state (c.loop-input.input + 1)) c.requires.1 (under_on (row_head c.args.sound.sizes.inputs c.args.state c.loop-input.input) (row_tail c.args.sound.sizes.outputs c.outputs_at-outs.result c.next_at-next.result ++ held_state (stream_in c.args.sound.file.now) c.args.sound.sizes.inputs c.args.sound.sizes.outputs c.args.state (c.loop-input.input + 1)) c.requires.1 (under_as (state-next (stream_in c.args.sound.file.now) c.args.sound.sizes.inputs c.args.sound.sizes.outputs c.args.state c.loop-input.input c.outputs_at-outs.result c.next_at-next.result c.outputs_at-outs.ensures.0 c.next_at-next.ensures.0 (omega (arith, c.loop-input-test.true, c.pow2-most.ensures.0))) c.loop-input.invariant) c.row_head-head.ensures) c.row_tail-end.ensures

pub returns : goal.returns
returns c = under_end (under_as (state_over (stream_in c.args.sound.file.now) c.args.sound.sizes.inputs c.args.sound.sizes.outputs c.args.state c.loop-input.input (omega (arith, c.loop-input-test.false, c.pow2-most.ensures.0))) c.loop-input.invariant)
