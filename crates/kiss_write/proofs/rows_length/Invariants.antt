-- `kiss_write::rows_length` meets its contract. The loop's invariant: the sum and the rows from a state on are all rows.
-- Assumes nothing.
use Prim.Native.Nat.{◌+◌}
use mathlib.Core.Path.{◌≡◌}
use lib.ListN.{length}
use Rattle.file_law.specs.Reading.{stream_in}
use Rattle.kiss_write.specs.Held.{held_rows}
use Rattle.kiss_write.proofs.rows_length.Given as goal

abbrev pub invariant-loop-state : goal.invariant-loop-state
invariant-loop-state l = l.sum + length (held_rows (stream_in l.sound.file.now) l.sound.sizes.inputs l.sound.sizes.outputs l.sound.sizes.states l.state) ≡ length (held_rows (stream_in l.sound.file.now) l.sound.sizes.inputs l.sound.sizes.outputs l.sound.sizes.states 0)
