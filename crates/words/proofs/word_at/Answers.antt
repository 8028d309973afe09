-- `words::word_at` meets its contract: the first byte says which words can start there.
-- Assumes nothing.
use Rattle.words.proofs.Outcomes.{all_over}
use Rattle.words.proofs.word_at.Goals as goal

pub returns-then-s-at : goal.returns-then-s-at
returns-then-s-at c =
    let a = c.args in
    all_over a.s.now a.at c.if-s-at.true
