-- What an expression reads, as the code has it.
-- Assumes nothing.
use Rattle.meaning.specs.Numbers as meaning
use Rattle.value.specs.declared.Reads.{Reads}

abbrev pub reads : Reads → meaning.Reads
reads r = record { word = r.word; inputs = r.inputs }
