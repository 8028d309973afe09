-- `spellings::bytes::part` meets its contract.
-- Assumes nothing.
use Rattle.spellings.proofs.Parts.{part_cut}
use Rattle.spellings.proofs.bytes.part.Goals as goal

pub returns : goal.returns
returns c = rw (c.min.ensures, c.min-end.ensures) (part_cut c.args.s.now c.args.from c.args.to)
