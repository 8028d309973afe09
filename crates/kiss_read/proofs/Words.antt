-- The stream of a table, word by word.
-- Assumes nothing.
use mathlib.Core.Path.{◌≡◌, refl, sym, ap, ap₂, ◌∙◌}
use mathlib.Core.List.{List, [], ◌∷◌, ◌++◌, append_assoc}
use Prim.Native.Nat.{ℕ, zero, suc, ◌+◌, ◌*◌, ◌/◌, ◌%◌, ◌≤◌, ◌<◌}
use native.Mathlib.Omega.{arith}
use lib.ListN.{length, get_or, get_or-eq_default, get_or-append}
use lib.Seq.{get_or-drop}
use Rattle.file_law.specs.Bytes.{low2}
use Rattle.file_law.specs.Table.{Row, Table, no_row, row_of, outputs_of, next_of, Fits}
use Rattle.file_law.specs.File.{words, row_bytes, rows_bytes, stream_of}
use Rattle.file_law.proofs.Joined.{length-joined, part_at}
use Rattle.kiss_read.specs.Cursor.{rows_words, words_of, row_words}

words_append : (l m : List ℕ) → words (l ++ m) ≡ words l ++ words m
unfolding words
words_append [] m = refl
words_append (a ∷ l) m = ap (λ (s : List ℕ). low2 a ++ s) (words_append l m) ∙ sym (append_assoc (low2 a) (words l) (words m))

rows_words_lem : (rs : List Row) → rows_bytes rs ≡ words (rows_words rs)
unfolding rows_bytes row_bytes words rows_words
rows_words_lem [] = refl
rows_words_lem (r ∷ rs) =
    ap (λ (s : List ℕ). (low2 r.outputs ++ words r.nexts) ++ s) (rows_words_lem rs) ∙ sym (words_append (r.outputs ∷ r.nexts) (rows_words rs))

pub stream_words : (t : Table) → Fits t → stream_of t ≡ words (words_of t)
unfolding stream_of words words_of
stream_words t f =
    let i : (t.inputs + 256 * t.outputs) % 256 ≡ t.inputs = omega (arith, f.inputs) in
    let q : (t.inputs + 256 * t.outputs) / 256 ≡ t.outputs = omega (arith, f.inputs) in
    let r : t.outputs % 256 ≡ t.outputs = omega (arith, f.outputs) in
    let o : (t.inputs + 256 * t.outputs) / 256 % 256 ≡ t.outputs = ap (λ (x : ℕ). x % 256) q ∙ r in
    ap (λ (s : List ℕ). t.inputs ∷ t.outputs ∷ (low2 (length t.rows) ++ s)) (rows_words_lem t.rows)
    ∙ ap₂ (λ (x y : ℕ). x ∷ y ∷ (low2 (length t.rows) ++ words (rows_words t.rows))) (sym i) (sym o)

low_byte : (l : List ℕ) (w : ℕ) → get_or (words l) (2 * w) 0 ≡ get_or l w 0 % 256
unfolding words
low_byte [] w = refl
low_byte (a ∷ l) zero = refl
low_byte (a ∷ l) (suc w) = ap (λ (i : ℕ). get_or (words (a ∷ l)) i 0) (let e : 2 * suc w ≡ suc (suc (2 * w)) = omega arith in e) ∙ low_byte l w

high_byte : (l : List ℕ) (w : ℕ) → get_or (words l) (2 * w + 1) 0 ≡ get_or l w 0 / 256 % 256
unfolding words
high_byte [] w = refl
high_byte (a ∷ l) zero = refl
high_byte (a ∷ l) (suc w) = ap (λ (i : ℕ). get_or (words (a ∷ l)) i 0) (let e : 2 * suc w + 1 ≡ suc (suc (2 * w + 1)) = omega arith in e) ∙ high_byte l w

pub stream_low : (t : Table) → Fits t → (w : ℕ) → get_or (stream_of t) (2 * w) 0 ≡ get_or (words_of t) w 0 % 256
stream_low t f w = ap (λ (s : List ℕ). get_or s (2 * w) 0) (stream_words t f) ∙ low_byte (words_of t) w

pub stream_high : (t : Table) → Fits t → (w : ℕ) → get_or (stream_of t) (2 * w + 1) 0 ≡ get_or (words_of t) w 0 / 256 % 256
stream_high t f w = ap (λ (s : List ℕ). get_or s (2 * w + 1) 0) (stream_words t f) ∙ high_byte (words_of t) w

length-words : (l : List ℕ) → length (words l) ≡ 2 * length l
unfolding words
length-words [] = refl
length-words (a ∷ l) = omega (arith, length-words l)

-- ---- the words of a state

module _ (t : Table) (f : Fits t) where
  wide : (state : ℕ) → state < length t.rows → length ((row_of t state).outputs ∷ (row_of t state).nexts) ≡ row_words t.inputs
  wide state h = omega (arith, (f.each state h).wide)

  length-rows : length (rows_words t.rows) ≡ length t.rows * row_words t.inputs
  unfolding rows_words
  length-rows = length-joined (λ (r : Row). r.outputs ∷ r.nexts) (row_words t.inputs) rows_words refl (λ a l. refl) no_row t.rows wide

  pub length_stream : length (stream_of t) ≡ (2 + length t.rows * row_words t.inputs) * 2
  unfolding words_of
  length_stream = ap length (stream_words t f) ∙ length-words (words_of t) ∙ omega (arith, length-rows)

  row_word : (state c : ℕ) → state < length t.rows → c < row_words t.inputs → get_or (words_of t) (2 + (state * row_words t.inputs + c)) 0 ≡ get_or (outputs_of t state ∷ (row_of t state).nexts) c 0
  unfolding rows_words words_of
  row_word state c h l =
      let r = part_at (λ (r : Row). r.outputs ∷ r.nexts) (row_words t.inputs) rows_words refl (λ a l. refl) no_row t.rows wide state h in
      let e : 2 + (state * row_words t.inputs + c) ≡ suc (suc (state * row_words t.inputs + c)) = omega arith in
      ap (λ (i : ℕ). get_or (words_of t) i 0) e
      ∙ sym (get_or-drop (state * row_words t.inputs) (rows_words t.rows) c 0)
      ∙ ap (λ (s : List ℕ). get_or s c 0) r.1
      ∙ get_or-append (outputs_of t state ∷ (row_of t state).nexts) r.0 0 c (omega (arith, wide state h))

  pub first_word : get_or (words_of t) 0 0 ≡ t.inputs + 256 * t.outputs
  unfolding words_of
  first_word = refl

  pub second_word : get_or (words_of t) 1 0 ≡ length t.rows
  unfolding words_of
  second_word = refl

  pub outs-word : (state : ℕ) → state < length t.rows → get_or (words_of t) (2 + (state * row_words t.inputs + 0)) 0 ≡ outputs_of t state
  outs-word state h = row_word state 0 h (omega arith)

  pub next_word_lem : (state c : ℕ) → state < length t.rows → suc c < row_words t.inputs → get_or (words_of t) (2 + (state * row_words t.inputs + suc c)) 0 ≡ next_of t state c
  next_word_lem state c h l = row_word state (suc c) h l

  pub no_word : (w : ℕ) → 2 + length t.rows * row_words t.inputs ≤ w → get_or (words_of t) w 0 ≡ 0
  unfolding words_of
  no_word w h = get_or-eq_default (words_of t) 0 {n = w} (omega (arith, length-rows))
