-- `stream::outputs_at` meets its contract.
-- Assumes nothing.
use mathlib.Core.Path.{sym, ap, ◌∙◌}
use Rattle.file_law.specs.Bytes.{word2, bytes_of}
use Rattle.file_law.specs.Reading.{place, row_at, outputs_at}
use Rattle.file_law.proofs.Tests.{stream_word, row_even}
use Rattle.stream.proofs.outputs_at.Goals as goal

pub returns : goal.returns
unfolding outputs_at
returns c =
    let a = c.args in
    let f = a.file.now in
    let at = c.place_of.ensures ∙ ap place c.row_at.ensures.0 in
    (c.word.ensures.0 ∙ ap (word2 (bytes_of f)) at ∙ sym (stream_word f (row_at a.k a.state) (row_even a.k a.state)), c.word.ensures.1)
