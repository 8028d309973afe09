-- `kiss_write::put_rows` meets its contract. The loop's invariant: the rows before a state are put.
-- Assumes nothing.
use Rattle.file_law.specs.Reading.{stream_in}
use Rattle.kiss_put.specs.Put.{Under}
use Rattle.kiss_write.specs.Held.{held_rows}
use Rattle.kiss_write.proofs.put_rows.Given as goal

abbrev pub invariant-loop-state : goal.invariant-loop-state
invariant-loop-state l = Under l.initial.text l.at (held_rows (stream_in l.sound.file.now) l.sound.sizes.inputs l.sound.sizes.outputs l.sound.sizes.states 0) (held_rows (stream_in l.sound.file.now) l.sound.sizes.inputs l.sound.sizes.outputs l.sound.sizes.states l.state) l.end l.text
