-- `front_c::windnadel_grammar` meets its contract: the number of the first pass's own answer.
-- Assumes nothing.
use Rattle.front_c.proofs.windnadel_grammar.Goals as goal

pub returns : goal.returns
returns c = record { answer = c.check.result; says = c.check.ensures; is = c.code.ensures }
