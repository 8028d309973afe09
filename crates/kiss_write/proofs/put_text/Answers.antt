-- `kiss_write::put_text` meets its contract: heading, rows and the end in turn.
-- Assumes nothing.
use native.Mathlib.Omega.{arith}
use Rattle.kiss_write.proofs.Held.{text-length}
use Rattle.kiss_write.proofs.Ends.{text-put}
use Rattle.file_law.specs.Reading.{stream_in}
use Rattle.kiss_write.proofs.put_text.Goals as goal

pub put_heading-rows-requires : goal.put_heading-rows-requires
put_heading-rows-requires c = (c.args.sound.holds.size, omega (arith, text-length (stream_in c.args.sound.file.now) c.args.sound.sizes.inputs c.args.sound.sizes.outputs c.args.sound.sizes.states, c.requires))

pub put_rows-end-requires : goal.put_rows-end-requires
put_rows-end-requires c = (omega (arith, text-length (stream_in c.args.sound.file.now) c.args.sound.sizes.inputs c.args.sound.sizes.outputs c.args.sound.sizes.states, c.requires, c.put_heading-rows.ensures.end, c.put_heading-rows.ensures.long))

pub bytes-requires : goal.bytes-requires
bytes-requires c = omega (arith, text-length (stream_in c.args.sound.file.now) c.args.sound.sizes.inputs c.args.sound.sizes.outputs c.args.sound.sizes.states, c.requires, c.put_heading-rows.ensures.end, c.put_heading-rows.ensures.long, c.put_rows-end.ensures.end, c.put_rows-end.ensures.long)

pub returns : goal.returns
returns c = text-put (stream_in c.args.sound.file.now) c.args.sound.sizes.inputs c.args.sound.sizes.outputs c.args.sound.sizes.states c.requires c.put_heading-rows.ensures c.put_rows-end.ensures c.bytes.ensures
