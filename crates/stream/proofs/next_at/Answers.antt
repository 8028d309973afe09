-- `stream::next_at` meets its contract.
-- Assumes nothing.
use mathlib.Core.Path.{sym, ap, ◌∙◌}
use Prim.Native.Nat.{◌+◌, ◌*◌}
use Rattle.file_law.specs.Bytes.{word2, bytes_of}
use Rattle.file_law.specs.Reading.{row_at, next_at}
use Rattle.file_law.proofs.Tests.{stream_word, next_even}
use Rattle.stream.proofs.next_at.Goals as goal

pub returns : goal.returns
unfolding next_at
returns c =
    let a = c.args in
    let f = a.file.now in
    (c.word.ensures.0 ∙ ap (word2 (bytes_of f)) c.next_place.ensures ∙ sym (stream_word f (row_at a.k a.state + 2 + 2 * a.input) (next_even a.k a.state a.input)), c.word.ensures.1)
