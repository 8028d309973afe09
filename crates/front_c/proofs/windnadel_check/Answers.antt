-- `front_c::windnadel_check` meets its contract: the number of the reading's own answer.
-- Assumes nothing.
use Rattle.front_c.proofs.windnadel_check.Goals as goal

pub returns : goal.returns
returns c = record { answer = c.check.result; says = c.check.ensures; is = c.code.ensures }
