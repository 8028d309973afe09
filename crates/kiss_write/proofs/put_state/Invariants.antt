-- `kiss_write::put_state` meets its contract. The loop's invariant: the rows before an input are put.
-- Assumes nothing.
use Rattle.file_law.specs.Reading.{stream_in}
use Rattle.kiss_put.specs.Put.{Under}
use Rattle.kiss_write.specs.Held.{held_state}
use Rattle.kiss_write.proofs.put_state.Given as goal

abbrev pub invariant-loop-input : goal.invariant-loop-input
invariant-loop-input l = Under l.initial.text l.at (held_state (stream_in l.sound.file.now) l.sound.sizes.inputs l.sound.sizes.outputs l.state 0) (held_state (stream_in l.sound.file.now) l.sound.sizes.inputs l.sound.sizes.outputs l.state l.input) l.end l.text
