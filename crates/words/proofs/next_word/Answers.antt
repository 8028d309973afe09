-- `words::next_word` meets its contract: blanks are run through.
-- Assumes nothing.
use Rattle.words.proofs.Outcomes.{after_blanks}
use Rattle.words.proofs.next_word.Goals as goal

pub returns : goal.returns
returns c =
    let a = c.args in
    after_blanks a.s.now a.from _ _ c.past_blanks.ensures c.word_at.ensures
