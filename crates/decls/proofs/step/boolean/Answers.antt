use Rattle.decls.proofs.Laws.{named-boolean}
use Rattle.decls.proofs.step.boolean.Goals as goal

pub returns : goal.returns
returns c = rw c.bare.ensures (named-boolean c.requires.0 c.word_from.ensures c.ending.ensures c.boolean_start-g.ensures c.requires.1 c.requires.2)
