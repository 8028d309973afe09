use Rattle.decls.proofs.Laws.{named-input}
use Rattle.decls.proofs.step.input.Goals as goal

pub returns : goal.returns
returns c = rw c.bare.ensures (named-input c.requires c.word_from.ensures c.ending.ensures)
