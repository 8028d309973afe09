-- `kiss_write::state_length` meets its contract. The loop's invariant: the sum and the rows from an input on are all rows.
-- Assumes nothing.
use native.Mathlib.Omega.{arith}
use Rattle.kiss_write.proofs.Held.{state_over, state-short, next-room, row-length}
use Rattle.kiss_law.proofs.Decimal.{length-decimal}
use Prim.Native.Nat.{ℕ}
use mathlib.Core.Path.{◌≡◌, ap, ◌∙◌}
use lib.ListN.{length}
use Rattle.file_law.specs.Reading.{stream_in, next_at}
use Rattle.kiss_law.specs.Text.{decimal}
use Rattle.kiss_write.proofs.state_length.Goals as goal

pub overflow_add-fixed : goal.overflow_add-fixed
overflow_add-fixed c = omega (arith, c.args.sound.holds.size.inputs, c.args.sound.holds.size.outputs, c.args.sound.holds.size.states)

pub overflow_add-fixed-2 : goal.overflow_add-fixed-2
overflow_add-fixed-2 c = omega (arith, c.args.sound.holds.size.inputs, c.args.sound.holds.size.outputs, c.args.sound.holds.size.states)

pub digits-requires : goal.digits-requires
digits-requires c = omega (arith, c.requires, c.args.sound.holds.size.inputs, c.args.sound.holds.size.outputs, c.args.sound.holds.size.states)

pub overflow_add-fixed-3 : goal.overflow_add-fixed-3
overflow_add-fixed-3 c = omega (arith, c.args.sound.holds.size.inputs, c.args.sound.holds.size.outputs, c.args.sound.holds.size.states, c.digits.ensures, length-decimal 5 c.args.state)

pub pow2-end-requires : goal.pow2-end-requires
pow2-end-requires c = omega (arith, c.args.sound.holds.size.inputs, c.args.sound.holds.size.outputs, c.args.sound.holds.size.states)

pub next_at-requires : goal.next_at-requires
next_at-requires c = next-room c.args.state c.loop-input.input c.args.sound.holds c.requires (omega (arith, c.loop-input-test.true, c.pow2-end.ensures.0))

pub digits-requires-in-loop-input : goal.digits-requires-in-loop-input
digits-requires-in-loop-input c = omega (arith, c.args.sound.holds.size.inputs, c.args.sound.holds.size.outputs, c.args.sound.holds.size.states, c.next_at.ensures.0, c.args.sound.holds.inside c.args.state c.loop-input.input c.requires (omega (arith, c.loop-input-test.true, c.pow2-end.ensures.0)))

pub overflow_add-sum : goal.overflow_add-sum
overflow_add-sum c = omega (arith, c.args.sound.holds.size.inputs, c.args.sound.holds.size.outputs, c.args.sound.holds.size.states, c.digits.ensures, c.digits-in-loop-input.ensures, length-decimal 5 c.args.state, length-decimal 5 c.next_at.result)

pub overflow_add-sum-in-loop-input : goal.overflow_add-sum-in-loop-input
overflow_add-sum-in-loop-input c = omega (arith, c.args.sound.holds.size.inputs, c.args.sound.holds.size.outputs, c.args.sound.holds.size.states, c.digits.ensures, c.digits-in-loop-input.ensures, length-decimal 5 c.args.state, length-decimal 5 c.next_at.result, state-short (stream_in c.args.sound.file.now) c.args.sound.sizes.inputs c.args.sound.sizes.outputs c.args.state c.args.sound.holds.size.inputs c.args.sound.holds.size.outputs)

pub loop-input-preserved : goal.loop-input-preserved
loop-input-preserved c = let d : c.digits-in-loop-input.result ≡ length (decimal (next_at (stream_in c.args.sound.file.now) c.args.sound.sizes.inputs c.args.state c.loop-input.input)) = c.digits-in-loop-input.ensures ∙ ap (λ (x : ℕ). length (decimal x)) c.next_at.ensures.0 in omega (arith, c.digits.ensures, row-length (stream_in c.args.sound.file.now) c.args.sound.sizes.inputs c.args.sound.sizes.outputs c.args.state c.loop-input.input (omega (arith, c.loop-input-test.true, c.pow2-end.ensures.0)))

pub returns : goal.returns
returns c = let z = ap length (state_over (stream_in c.args.sound.file.now) c.args.sound.sizes.inputs c.args.sound.sizes.outputs c.args.state c.loop-input.input (omega (arith, c.loop-input-test.false, c.pow2-end.ensures.0))) in omega arith
