-- `stream::next_low` meets its contract: the first byte of a word is its rest by 256.
-- Assumes nothing.
use mathlib.Core.Path.{◌≡◌, ap, ◌∙◌}
use Prim.Native.Nat.{◌+◌, ◌*◌}
use native.Mathlib.Omega.{arith}
use Rattle.file_law.specs.Bytes.{word2, bytes_of}
use Rattle.file_law.specs.Reading.{stream_in, row_at, next_at}
use Rattle.stream.proofs.next_low.Goals as goal

pub returns : goal.returns
unfolding next_at word2 stream_in
returns c =
    let a = c.args in
    let b = stream_in a.file.now in
    let j = row_at a.k a.state + 2 + 2 * a.input in
    let e : c.byte.result ≡ b j = c.byte.ensures.0 ∙ ap (bytes_of a.file.now) c.next_place.ensures in
    omega (arith, c.byte.ensures.1)
