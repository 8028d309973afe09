-- `plain::changed` meets its contract.
-- Assumes nothing.
use Rattle.plain.proofs.Laws.{changes_bit, changes_whole}
use Rattle.plain.proofs.changed.Goals as goal

pub returns-in-Some : goal.returns-in-Some
returns-in-Some c =
    changes_bit c.find-v.ensures c.number_of-low.ensures c.width_of-width.ensures c.in-Some.is c.bit_changed-k.ensures c.finish.ensures

pub returns-in-None : goal.returns-in-None
returns-in-None c =
    changes_whole c.find-v.ensures c.number_of-low.ensures c.width_of-width.ensures c.in-None.is c.changed-k.ensures c.finish-in-None.ensures
