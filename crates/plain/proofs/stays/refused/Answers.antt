-- `plain::stays::refused` meets its contract.
-- Assumes nothing.
use Rattle.plain.proofs.Staying.{refuses}
use Rattle.plain.proofs.stays.refused.Goals as goal

pub returns : goal.returns
returns c =
    refuses c.begun-m.ensures c.refused-k.ensures c.finish.ensures
