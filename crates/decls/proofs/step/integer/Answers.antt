use Rattle.decls.proofs.Laws.{named-integer}
use Rattle.decls.proofs.step.integer.Goals as goal

pub returns : goal.returns
returns c = rw c.bare.ensures (named-integer c.requires c.word_from-o.ensures c.word_from-n.ensures c.word_from-c.ensures c.word_from.ensures c.integer_start-g.ensures)
