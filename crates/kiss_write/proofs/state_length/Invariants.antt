-- `kiss_write::state_length` meets its contract. The loop's invariant: the sum and the rows from an input on are all rows.
-- Assumes nothing.
use Prim.Native.Nat.{◌+◌}
use mathlib.Core.Path.{◌≡◌}
use lib.ListN.{length}
use Rattle.file_law.specs.Reading.{stream_in}
use Rattle.kiss_write.specs.Held.{held_state}
use Rattle.kiss_write.proofs.state_length.Given as goal

abbrev pub invariant-loop-input : goal.invariant-loop-input
invariant-loop-input l = l.sum + length (held_state (stream_in l.sound.file.now) l.sound.sizes.inputs l.sound.sizes.outputs l.state l.input) ≡ length (held_state (stream_in l.sound.file.now) l.sound.sizes.inputs l.sound.sizes.outputs l.state 0)
