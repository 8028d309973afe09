-- Only written files are accepted: an accepted file of bytes is the file of the table that it holds.
-- Assumes nothing.
use mathlib.Core.Path.{◌≡◌, refl, sym, ap, ap₂, ◌∙◌}
use mathlib.Core.Logic.{◌↔◌}
use mathlib.Core.Bool.{true}
use Prim.Native.Nat.{ℕ, zero, suc, ◌+◌, ◌*◌, ◌/◌, ◌^◌, ◌≤◌, ◌<◌}
use native.Mathlib.Omega.{arith}
use native.Mathlib.Decide.{dec_lt}
use mathlib.Core.List.{List, ◌∷◌, ◌++◌}
use lib.ListN.{length, get_or, take, drop, get_or-eq_default}
use lib.Seq.{ext_get_or, get_or-drop}
use Rattle.crc_law.specs.Crc.{crc_of, AllBytes}
use Rattle.file_law.specs.Answer.{gives, listed}
use Rattle.file_law.specs.Bytes.{low2, low4, bytes_of}
use Rattle.file_law.specs.Table.{Table, Fits}
use Rattle.file_law.specs.File.{words, row_bytes, rows_bytes, stream_of, piece_of, body_of, block_of, blocks, block_count, file_of}
use Rattle.file_law.specs.Reading.{block_good, place, stream_in, inputs_in, states_in, row_length, row_at, stream_length, outputs_at, next_at, Sizes, open_answer, row_in, table_in}
use Rattle.file_law.proofs.Every.{length-listed, get_or-listed}
use Rattle.file_law.proofs.Tests.{block}
use Rattle.file_law.proofs.Blocks.{length_piece, piece_at}
use Rattle.file_law.proofs.Held.{rows_in}
use Rattle.file_law.proofs.Sound.{sound, sound-fits}
use Rattle.file_law.proofs.Listed.{listed-none, listed_at, listed-append, take-listed, all_listed, low2-word, low4-word}
use Rattle.file_law.proofs.Joined.{joined-listed}
use Rattle.file_law.proofs.Round.{sizes_of, accepted}

-- ---- the stream of the table that a stream of bytes holds is that stream

module _ (b : ℕ → ℕ) (bytes : (j : ℕ) → b j < 256) where
  row_listed : (k state : ℕ) → row_bytes (row_in b k state) ≡ listed b (row_length k) (row_at k state)
  unfolding row_bytes words outputs_at next_at
  row_listed k state =
      let at = row_at k state in
      let z : at + 2 + 0 * 2 ≡ at + 2 = omega arith in
      let l : 2 ^ k * 2 ≡ 2 * 2 ^ k = omega arith in
      ap₂ ◌++◌ (low2-word b bytes at) (
      joined-listed low2 2 words refl (λ a s. refl) b (next_at b k state) (at + 2) word (2 ^ k) 0
      ∙ ap₂ (λ (x y : ℕ). listed b x y) l z
      )
      ∙ sym (listed-append b 2 (2 * 2 ^ k) at)
    where
      word : (i : ℕ) → low2 (next_at b k state i) ≡ listed b 2 (row_at k state + 2 + i * 2)
      word i = let e : row_at k state + 2 + 2 * i ≡ row_at k state + 2 + i * 2 = omega arith in low2-word b bytes (row_at k state + 2 + 2 * i) ∙ ap (listed b 2) e

  stream_listed : stream_of (table_in b) ≡ listed b (stream_length (inputs_in b) (states_in b)) 0
  unfolding stream_of table_in rows_bytes listed
  stream_listed =
      let k = inputs_in b in
      let size = states_in b * row_length k in
      let z : 4 + 0 * row_length k ≡ 4 = omega arith in
      let rows = joined-listed row_bytes (row_length k) rows_bytes refl (λ a s. refl) b (row_in b k) 4 (row_listed k) (states_in b) 0 in
      ap₂ (λ (n : ℕ) (r : List ℕ). k ∷ b 1 ∷ (low2 n ++ r)) (rows_in b) (rows ∙ ap (listed b size) z)
      ∙ ap (λ (l : List ℕ). k ∷ b 1 ∷ (l ++ listed b size 4)) (low2-word b bytes 2)
      ∙ sym (listed-append b 4 size 0)

-- ---- a good block of bytes is the block of its piece

module _ (f : List ℕ) (bytes : AllBytes f) (total n : ℕ) (good : block_good f total n ≡ true) (inside : 512 * n + 512 ≤ length f) where
  abbrev at : ℕ
  at = 512 * n

  abbrev p : ℕ → ℕ
  p = bytes_of f

  number : low2 n ≡ listed p 2 at
  number = ap low2 (sym (block f total n good).numbered.number) ∙ low2-word p bytes at

  count : low2 total ≡ listed p 2 (at + 2)
  count = ap low2 (sym (block f total n good).numbered.count) ∙ low2-word p bytes (at + 2)

  check : low4 (crc_of (take 508 (drop at f))) ≡ listed p 4 (at + 508)
  check = ap low4 (sym (block f total n good).checked) ∙ low4-word p bytes (at + 508)

  module _ (rest : List ℕ) (same : piece_of rest ≡ listed p 504 (at + 4)) where
    body_same : body_of n total rest ≡ listed p 508 at
    unfolding body_of
    body_same =
        let e : at + 4 ≡ at + 2 + 2 = omega arith in
        ap₂ ◌++◌ number (ap₂ ◌++◌ count (same ∙ ap (listed p 504) e) ∙ sym (listed-append p 2 504 (at + 2))) ∙ sym (listed-append p 2 506 at)

    block_same : block_of n total rest ≡ listed p 512 at
    unfolding block_of
    block_same =
        ap₂ ◌++◌ body_same (ap (λ (x : List ℕ). low4 (crc_of x)) (body_same ∙ sym (take-listed f 508 at (omega arith))) ∙ check)
        ∙ sym (listed-append p 508 4 at)

-- ---- the whole file

module _ (f : List ℕ) (bytes : AllBytes f) (z : Sizes) (e : open_answer f ≡ gives z) where
  abbrev b : ℕ → ℕ
  b = stream_in f

  abbrev s : List ℕ
  s = stream_of (table_in b)

  abbrev total : ℕ
  total = length f / 512

  abbrev size : ℕ
  size = stream_length (inputs_in b) (states_in b)

  held : s ≡ listed b size 0
  unfolding stream_in
  held = stream_listed b (λ j. bytes (place j))

  length-held : length s ≡ size
  length-held = ap length held ∙ length-listed b size 0

  stream_same : (j : ℕ) → j < 504 * total → get_or s j 0 ≡ b j
  stream_same j h = at (dec_lt j size)
    where
      at : Dec (j < size) → get_or s j 0 ≡ b j
      at (yes l) = ap (λ (x : List ℕ). get_or x j 0) held ∙ listed_at b size 0 j l
      at (no l) = get_or-eq_default s 0 (omega (arith, length-held)) ∙ sym ((sound f z e).rows.filled j (omega arith) h)

  piece_same : (n : ℕ) → n < total → piece_of (drop (504 * n) s) ≡ listed (bytes_of f) 504 (512 * n + 4)
  unfolding stream_in
  piece_same n h =
      let rest = drop (504 * n) s in
      let l = length-listed (bytes_of f) 504 (512 * n + 4) in
      ext_get_or 0 (piece_of rest) (listed (bytes_of f) 504 (512 * n + 4)) (length_piece rest ∙ sym l) (λ i c.
      let g : i < 504 = rw (length_piece rest) at c in
      let o : place (504 * n + i) ≡ 512 * n + 4 + i = omega arith in
      piece_at rest i g ∙ get_or-drop (504 * n) s i 0 ∙ stream_same (504 * n + i) (omega arith) ∙ ap (bytes_of f) o
      ∙ sym (get_or-listed (bytes_of f) 504 (512 * n + 4) 0 i g))

  blocks-same : (m : ℕ) → m ≤ total → blocks m total s ≡ listed (bytes_of f) (512 * m) 0
  unfolding blocks
  blocks-same zero h = sym (listed-none (bytes_of f) 0)
  blocks-same (suc m) h =
      let o : 512 * m + 512 ≡ 512 * suc m = omega arith in
      let q : 512 * m ≡ 0 + 512 * m = omega arith in
      ap₂ ◌++◌ (blocks-same m (omega arith)) (block_same f bytes total m ((sound f z e).blocks m h) (omega arith) (drop (504 * m) s) (piece_same m h) ∙ ap (listed (bytes_of f) 512) q)
      ∙ sym (listed-append (bytes_of f) (512 * m) 512 0)
      ∙ ap (λ (x : ℕ). listed (bytes_of f) x 0) o

  pub only_written : f ≡ file_of (stream_of (table_in (stream_in f)))
  unfolding file_of
  only_written =
      let g = sound f z e in
      let l : length f ≡ 512 * total = omega (arith, g.shape.exact) in
      let c : total ≡ block_count (length s) = sym g.rows.exact ∙ ap block_count (sym length-held) in
      all_listed f ∙ ap (λ (x : ℕ). listed (bytes_of f) x 0) l ∙ sym (blocks-same total (omega arith)) ∙ ap (λ (x : ℕ). blocks x x s) c

-- a list of bytes is accepted exactly if it is the file of a table within the sizes
pub accepted_iff : (f : List ℕ) → AllBytes f → ((z : Sizes) × (open_answer f ≡ gives z)) ↔ ((t : Table) × Fits t × (f ≡ file_of (stream_of t)))
accepted_iff f bytes = (
  (λ a. (table_in (stream_in f), sound-fits f a.0 a.1, only_written f bytes a.0 a.1)),
  (λ w. (sizes_of w.0, ap open_answer w.2 ∙ accepted w.0 w.1)),
)
