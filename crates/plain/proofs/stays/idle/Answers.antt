-- `plain::stays::idle` meets its contract.
-- Assumes nothing.
use Rattle.plain.proofs.Staying.{idles}
use Rattle.plain.proofs.stays.idle.Goals as goal

pub returns : goal.returns
returns c =
    idles c.with_acts-m.ensures c.begun-k.ensures c.finish-r.ensures c.branched.ensures
