-- The table file, written.
-- Assumes nothing.
use Rattle.std.specs.Prelude.{ℕ, zero, suc, ◌+◌, ◌*◌, ◌/◌, List, [], ◌∷◌, ◌++◌, length, take, drop, replicate, leb}
use Rattle.crc_law.specs.Crc.{crc_of}
use Rattle.file_law.specs.Answer.{unless}
use Rattle.file_law.specs.Bytes.{low2, low4, patch}
use Rattle.file_law.specs.Table.{Row, Table}

unfoldable pub words : List ℕ → List ℕ
words [] = []
words (n ∷ s) = low2 n ++ words s

-- F1: a state's outputs and next states
unfoldable pub row_bytes : Row → List ℕ
row_bytes r = low2 r.outputs ++ words r.nexts

unfoldable pub rows_bytes : List Row → List ℕ
rows_bytes [] = []
rows_bytes (r ∷ rs) = row_bytes r ++ rows_bytes rs

-- F1: the sizes, then the rows
unfoldable pub stream_of : Table → List ℕ
stream_of t = t.inputs ∷ t.outputs ∷ (low2 (length t.rows) ++ rows_bytes t.rows)

-- F2: the piece that what is left of the stream begins with
unfoldable pub piece_of : List ℕ → List ℕ
piece_of rest = take 504 (rest ++ replicate 504 0)

-- F3: the first 508 bytes of a block
unfoldable pub body_of : ℕ → ℕ → List ℕ → List ℕ
body_of number total rest = low2 number ++ (low2 total ++ piece_of rest)

-- F3: a block, with its check
unfoldable pub block_of : ℕ → ℕ → List ℕ → List ℕ
block_of number total rest = body_of number total rest ++ low4 (crc_of (body_of number total rest))

-- the first n blocks of a stream that takes `total` of them
unfoldable pub blocks : ℕ → ℕ → List ℕ → List ℕ
blocks zero total stream = []
blocks (suc n) total stream = blocks n total stream ++ block_of n total (drop (504 * n) stream)

-- as many pieces as hold a stream's bytes
abbrev pub block_count : ℕ → ℕ
block_count bytes = (bytes + 503) / 504

unfoldable pub file_of : List ℕ → List ℕ
file_of stream = blocks (block_count (length stream)) (block_count (length stream)) stream

-- F3, F4: a block in its own 512 bytes of the lent buffer; one that ends before them is left alone
unfoldable pub with_block : List ℕ → ℕ → ℕ → List ℕ → List ℕ
with_block buffer number total rest =
    unless (leb (512 * number + 512) (length buffer)) buffer (patch buffer (512 * number) (block_of number total rest))
