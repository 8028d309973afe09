-- A file written from a table within the sizes is accepted and gives that table back; two tables never share a file.
-- Assumes nothing.
use mathlib.Core.Path.{◌≡◌, refl, sym, ap, ◌∙◌}
use Prim.Native.Nat.{ℕ, ◌+◌, ◌*◌, ◌/◌, ◌^◌, ◌≤◌, ◌<◌}
use native.Mathlib.Nat.{le_trans}
use native.Mathlib.Omega.{arith}
use mathlib.Core.List.{List, ◌++◌, map}
use lib.ListN.{length, get_or, drop, get_or-eq_default}
use lib.Seq.{drop-drop, drop-append-le, ext_get_or}
use lib.Pow.{pow_mono}
use Rattle.file_law.specs.Answer.{gives}
use Rattle.file_law.specs.Bytes.{low2, bytes_of}
use Rattle.file_law.specs.Table.{Table, no_row, row_of, outputs_of, next_of, Fits, Running, table_run}
use Rattle.file_law.specs.File.{words, row_bytes, rows_bytes, stream_of, block_count, file_of}
use Rattle.file_law.specs.Reading.{stream_in, states_in, row_length, row_at, stream_length, blocks_for, outputs_at, next_at, Sizes, sizes_in, open_answer, row_in, table_in}
use Rattle.file_law.specs.Stepping.{Shape, run_answers}
use Rattle.file_law.proofs.Every.{length-listed}
use Rattle.file_law.proofs.Tests.{blocks-small}
use Rattle.file_law.proofs.Held.{rows_in, row_in_lem, nexts_in}
use Rattle.file_law.proofs.Sound.{Rows, opens}
use Rattle.file_law.proofs.Runs.{every_sequence}
use Rattle.file_law.proofs.Words.{word2-ahead}
use Rattle.file_law.proofs.Joined.{length-joined, part_at}
use Rattle.file_law.proofs.Written.{length_file, good, stream_back}

length-words : (s : List ℕ) → length (words s) ≡ 2 * length s
unfolding words
length-words s = length-joined low2 2 words refl (λ a l. refl) 0 s (λ i h. refl) ∙ omega arith

-- the sizes of a table
abbrev pub sizes_of : Table → Sizes
sizes_of t = record { inputs = t.inputs; outputs = t.outputs; states = length t.rows }

module _ (t : Table) (fits : Fits t) where
  abbrev k : ℕ
  k = t.inputs

  abbrev n : ℕ
  n = length t.rows

  abbrev s : List ℕ
  s = stream_of t

  abbrev f : List ℕ
  f = file_of s

  length-row : (state : ℕ) → state < n → length (row_bytes (row_of t state)) ≡ row_length k
  unfolding row_bytes
  length-row state h = omega (arith, length-words (row_of t state).nexts, (fits.each state h).wide)

  length_stream : length s ≡ stream_length k n
  unfolding stream_of rows_bytes
  length_stream = omega (arith, length-joined row_bytes (row_length k) rows_bytes refl (λ a l. refl) no_row t.rows length-row)

  row_from_lem : (state : ℕ) → state < n → (y : List ℕ) × (drop (row_at k state) s ≡ row_bytes (row_of t state) ++ y)
  unfolding stream_of rows_bytes
  row_from_lem state h =
      let r = part_at row_bytes (row_length k) rows_bytes refl (λ a l. refl) no_row t.rows length-row state h in
      (r.0, sym (drop-drop (state * row_length k) 4 s) ∙ r.1)

  states-back : states_in (bytes_of s) ≡ n
  unfolding stream_of
  states-back = word2-ahead s 2 n (rows_bytes t.rows) refl (omega (arith, fits.states))

  outputs-back : (state : ℕ) → state < n → outputs_at (bytes_of s) k state ≡ outputs_of t state
  unfolding outputs_at row_bytes
  outputs-back state h =
      let r = row_from_lem state h in
      let p : 2 ^ t.outputs ≤ 65536 = pow_mono {j = 16} fits.outputs in
      word2-ahead s (row_at k state) (outputs_of t state) (words (row_of t state).nexts ++ r.0) r.1 (le_trans (fits.each state h).clear p)

  next-back : (state input : ℕ) → state < n → input < 2 ^ k → next_at (bytes_of s) k state input ≡ next_of t state input
  unfolding next_at row_bytes words
  next-back state input h i =
      let r = row_from_lem state h in
      let nexts = (row_of t state).nexts in
      let l : input < length nexts = omega (arith, (fits.each state h).wide) in
      let q = part_at low2 2 words refl (λ a l. refl) 0 nexts (λ i h. refl) input l in
      let e : input * 2 ≡ 2 * input = omega arith in
      word2-ahead s (row_at k state + 2 + 2 * input) (next_of t state input) (q.0 ++ r.0) (
      sym (drop-drop (2 * input) (row_at k state + 2) s)
      ∙ ap (drop (2 * input)) (sym (drop-drop 2 (row_at k state) s) ∙ ap (drop 2) r.1)
      ∙ drop-append-le (2 * input) (words nexts) r.0 (omega (arith, length-words nexts))
      ∙ ap (λ (x : ℕ). drop x (words nexts) ++ r.0) (sym e)
      ∙ ap (λ (x : List ℕ). x ++ r.0) q.1
      ) (omega (arith, (fits.each state h).inside input i, fits.states))

  -- ---- the file is accepted

  few : block_count (length s) ≤ 65535
  few = rw length_stream (omega (arith, blocks-small k n fits.inputs fits.states))

  blocks_in : length f / 512 ≡ block_count (length s)
  blocks_in = omega (arith, length_file s)

  called_for : blocks_for k n ≡ block_count (length s)
  called_for = ap block_count (sym length_stream)

  read : sizes_of t ≡ sizes_in (stream_in f)
  unfolding stream_of
  read = rw (stream_back s) (ap (λ (x : ℕ). let z : Sizes = record { inputs = k; outputs = t.outputs; states = x } in z) (sym states-back))

  shape : Shape f
  unfolding stream_of
  shape = record {
    long = omega (arith, length_file s, length_stream);
    size = rw (stream_back s, states-back) (record { inputs = fits.inputs; outputs = fits.outputs; some = fits.some; states = fits.states });
    exact = rw (stream_back s, states-back, called_for) (length_file s);
  }

  rows : Rows (bytes_of s) (block_count (length s)) k t.outputs n
  rows = record {
    exact = called_for;
    clear = λ state h. rw (outputs-back state h) (fits.each state h).clear;
    filled = λ j l h. get_or-eq_default s 0 (rw length_stream l);
    inside = λ state input h i. rw (next-back state input h i) ((fits.each state h).inside input i);
  }

  pub accepted : open_answer (file_of (stream_of t)) ≡ gives (sizes_of t)
  unfolding stream_of
  accepted = opens f (sizes_of t) (record {
    sizes = read;
    shape = shape;
    blocks = rw blocks_in (λ m h. good s m h few);
    rows = rw (blocks_in, stream_back s, states-back) rows;
  })

  -- ---- the table comes back

  nexts-back : (state : ℕ) → state < n → (row_in (bytes_of s) k state).nexts ≡ (row_of t state).nexts
  unfolding stream_of
  nexts-back state h =
      let l = length-listed (next_at (bytes_of s) k state) (2 ^ k) 0 in
      ext_get_or 0 (row_in (bytes_of s) k state).nexts (row_of t state).nexts (l ∙ sym (fits.each state h).wide)
      (λ i b. let g = rw l at b in nexts_in (bytes_of s) state i g ∙ next-back state i h g)

  row_back : (state : ℕ) → state < n → row_in (bytes_of s) k state ≡ row_of t state
  row_back state h = λ i. record { outputs = outputs-back state h i; nexts = nexts-back state h i }

  rows_back : (table_in (bytes_of s)).rows ≡ t.rows
  unfolding stream_of
  rows_back =
      let l = rows_in (bytes_of s) in
      ext_get_or no_row (table_in (bytes_of s)).rows t.rows (l ∙ states-back)
      (λ i b. let g = rw l at b in row_in_lem (bytes_of s) i g ∙ row_back i (rw states-back at g))

  pub same-table : table_in (stream_in (file_of (stream_of t))) ≡ t
  unfolding table_in stream_of
  same-table = ap table_in (stream_back s) ∙ (λ i. record { inputs = k; outputs = t.outputs; rows = rows_back i })

-- two tables never share a file
pub no_shared_file : (t u : Table) → Fits t → Fits u → file_of (stream_of t) ≡ file_of (stream_of u) → t ≡ u
no_shared_file t u ft fu e = sym (same-table t ft) ∙ ap (λ (f : List ℕ). table_in (stream_in f)) e ∙ same-table u fu

-- a written file runs as the table that it was written from
pub written_runs : (t : Table) → Fits t → (c : Running) (inputs : List ℕ) → ((j : ℕ) → get_or inputs j 0 < 2 ^ t.inputs)
    → run_answers (file_of (stream_of t)) c inputs ≡ map gives (table_run t inputs)
written_runs t fits c inputs h =
    every_sequence (file_of (stream_of t)) (sizes_of t) (accepted t fits) c inputs h ∙ ap (λ (x : Table). map gives (table_run x inputs)) (same-table t fits)
