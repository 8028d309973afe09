use Rattle.value.proofs.Laws.{through, one_shifted}
use lib.Bits.{and_mask}
use Rattle.value.proofs.field_of.Goals as goal

pub returns : goal.returns
returns c = rw (through _ c.from.type_inv, c.from.ensures, one_shifted _ c.requires.1, and_mask)
