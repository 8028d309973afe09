-- A written file is a list of bytes.
-- Assumes nothing.
use Prim.Native.Nat.{ℕ, zero, suc, ◌*◌, ◌/◌, ◌%◌, ◌<◌}
use native.Mathlib.Omega.{arith}
use mathlib.Core.List.{List, [], ◌∷◌, ◌++◌}
use lib.ListN.{length, take, drop, replicate}
use Rattle.crc_law.specs.Crc.{crc_of, AllBytes}
use Rattle.crc_law.proofs.Bytes.{bytes_take, bytes_drop}
use Rattle.file_law.specs.Bytes.{low2, low4}
use Rattle.file_law.specs.Table.{Row, Table, Fits}
use Rattle.file_law.specs.File.{words, row_bytes, rows_bytes, stream_of, piece_of, body_of, block_of, blocks, block_count, file_of}

-- byte by byte: the same as `AllBytes`, and it shows its list
data Bytes : List ℕ → Type 0 where
  none : Bytes []
  more : {x : ℕ} {s : List ℕ} → x < 256 → Bytes s → Bytes (x ∷ s)

all : {s : List ℕ} → Bytes s → AllBytes s
all none k = omega arith
all (more h a) zero = h
all (more h a) (suc k) = all a k

each : (s : List ℕ) → AllBytes s → Bytes s
each [] a = none
each (x ∷ s) a = more (a 0) (each s (λ k. a (suc k)))

append : {s t : List ℕ} → Bytes s → Bytes t → Bytes (s ++ t)
append none b = b
append (more h a) b = more h (append a b)

-- ---- what is written

byte : (n : ℕ) → n % 256 < 256
byte n = omega arith

zeros : (n : ℕ) → Bytes (replicate n 0)
zeros zero = none
zeros (suc n) = more (byte 0) (zeros n)

low2-bytes : (n : ℕ) → Bytes (low2 n)
low2-bytes n = more (byte n) (more (byte (n / 256)) none)

low4-bytes : (n : ℕ) → Bytes (low4 n)
low4-bytes n = more (byte n) (more (byte (n / 256)) (more (byte (n / 65536)) (more (byte (n / 16777216)) none)))

words-bytes : (s : List ℕ) → Bytes (words s)
unfolding words
words-bytes [] = none
words-bytes (n ∷ s) = append (low2-bytes n) (words-bytes s)

rows-bytes : (rs : List Row) → Bytes (rows_bytes rs)
unfolding rows_bytes row_bytes
rows-bytes [] = none
rows-bytes (r ∷ rs) = append (append (low2-bytes r.outputs) (words-bytes r.nexts)) (rows-bytes rs)

stream_bytes : (t : Table) → Fits t → Bytes (stream_of t)
unfolding stream_of
stream_bytes t fits =
    more {x = t.inputs} (omega (arith, fits.inputs)) (more {x = t.outputs} (omega (arith, fits.outputs)) (append (low2-bytes (length t.rows)) (rows-bytes t.rows)))

piece_bytes : {rest : List ℕ} → Bytes rest → Bytes (piece_of rest)
unfolding piece_of
piece_bytes {rest} a = each (take 504 (rest ++ replicate 504 0)) (bytes_take 504 (rest ++ replicate 504 0) (all (append a (zeros 504))))

block_bytes : (num total : ℕ) {rest : List ℕ} → Bytes rest → Bytes (block_of num total rest)
unfolding block_of body_of
block_bytes num total {rest} a =
    append (append (low2-bytes num) (append (low2-bytes total) (piece_bytes a))) (low4-bytes (crc_of (body_of num total rest)))

blocks-bytes : (n total : ℕ) {s : List ℕ} → Bytes s → Bytes (blocks n total s)
unfolding blocks
blocks-bytes zero total a = none
blocks-bytes (suc n) total {s} a = append (blocks-bytes n total a) (block_bytes n total (each (drop (504 * n) s) (bytes_drop (504 * n) s (all a))))

pub written-bytes : (t : Table) → Fits t → AllBytes (file_of (stream_of t))
unfolding file_of
written-bytes t fits =
    let total = block_count (length (stream_of t)) in
    all (blocks-bytes total total (stream_bytes t fits))
