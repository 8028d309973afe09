-- `kiss_write::write_sound` meets its contract: 15, then 12, then the text.
-- Assumes nothing.
use native.Mathlib.Omega.{arith}
use Rattle.kiss_write.proofs.Held.{holds, text-length}
use Rattle.kiss_write.proofs.Ends.{short, made}
use mathlib.Core.Logic.{inl, inr}
use Rattle.file_law.specs.Reading.{stream_in}
use Rattle.kiss_law.specs.Kiss as kiss
use Rattle.kiss_write.proofs.write_sound.Goals as goal

pub returns-then-z-eq0 : goal.returns-then-z-eq0
returns-then-z-eq0 c = elim c.then-z-eq0.either [ inl a ↦ kiss.KissWrites.fifteen c.requires (inl a) | inr b ↦ kiss.KissWrites.fifteen c.requires (inr b.1) ]

pub heading_length-requires : goal.heading_length-requires
heading_length-requires c = (holds c.args.file.now c.args.z.inputs c.args.z.outputs c.args.z.states c.requires).size

pub invariant_of-sound : goal.invariant_of-sound
invariant_of-sound c = record { holds = holds c.args.file.now c.args.z.inputs c.args.z.outputs c.args.z.states c.requires }

pub returns-then-text-length : goal.returns-then-text-length
returns-then-text-length c = short c.args.file.now c.args.text.now c.args.z.inputs c.args.z.outputs c.args.z.states c.requires (omega arith) (omega arith) (omega (arith, text-length (stream_in c.args.file.now) c.args.z.inputs c.args.z.outputs c.args.z.states, c.heading_length.ensures.0, c.rows_length.ensures.0))

pub put_text-requires : goal.put_text-requires
put_text-requires c = omega (arith, text-length (stream_in c.args.file.now) c.args.z.inputs c.args.z.outputs c.args.z.states, c.heading_length.ensures.0, c.rows_length.ensures.0)

pub returns : goal.returns
returns c = made c.args.file.now c.args.text.now c.args.z.inputs c.args.z.outputs c.args.z.states c.requires _ (omega arith) (omega arith) (omega (arith, text-length (stream_in c.args.file.now) c.args.z.inputs c.args.z.outputs c.args.z.states, c.heading_length.ensures.0, c.rows_length.ensures.0)) (omega (arith, text-length (stream_in c.args.file.now) c.args.z.inputs c.args.z.outputs c.args.z.states, c.heading_length.ensures.0, c.rows_length.ensures.0)) c.put_text.ensures
