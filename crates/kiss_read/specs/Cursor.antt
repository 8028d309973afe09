-- Where the reading of a good text stands: how many words of the table's stream are behind, and which rows are ahead.
-- Assumes nothing.
use Rattle.std.specs.Prelude.{◌≡◌, List, [], ◌∷◌, ◌++◌, ℕ, zero, suc, ◌+◌, ◌*◌, ◌^◌, ◌≤◌, ◌<◌, Result, Ok, Err, length, get_or, drop}
use Rattle.file_law.specs.Table.{Row, Table, outputs_of, row_of}
use Rattle.file_law.specs.File.{stream_of, with_block}
use Rattle.file_law.proofs.Lent.{written}
use Rattle.kiss_law.specs.Text.{ascii, row_head, row_tail, state_rows, all_rows, text_of}
use Rattle.kiss_law.specs.Kiss.{Writable}
use Rattle.kiss_law.specs.Forms.{SizedSo}
use Rattle.kiss_read.specs.declared.Line.{Line}
use Rattle.kiss_read.specs.declared.Got.{Got}

-- the table that the text is of
pub record TextOf (t : Table) (x : List ℕ) (k o n : ℕ) : Type 0 where
  pub writable : Writable t
  pub is : x ≡ text_of t
  pub sized : SizedSo t k o n

-- F1: the words of rows, and of a table
unfoldable pub rows_words : List Row → List ℕ
rows_words [] = []
rows_words (r ∷ rs) = (r.outputs ∷ r.nexts) ++ rows_words rs

unfoldable pub words_of : Table → List ℕ
words_of t = (t.inputs + 256 * t.outputs) ∷ length t.rows ∷ rows_words t.rows

-- a row takes so many words
abbrev pub row_words : ℕ → ℕ
row_words k = 2 ^ k + 1

-- the text from a state's rows on
unfoldable pub from_state : Table → ℕ → ℕ → ℕ → List ℕ
from_state t k o state = all_rows k o state (drop state t.rows) ++ ascii ".e\n"

-- .. from the row for an input on
unfoldable pub from_input : Table → ℕ → ℕ → ℕ → ℕ → List ℕ
from_input t k o state input = state_rows k o state (outputs_of t state) input (drop input (row_of t state).nexts) ++ from_state t k o (suc state)

-- what is ahead at word c of a state's row
unfoldable pub ahead : Table → ℕ → ℕ → ℕ → ℕ → List ℕ
ahead t k o state zero = from_state t k o state
ahead t k o state (suc c) = from_input t k o state c

-- before word w of the stream, the text's rows that hold it and what follows stand from `at` on
pub record Ahead (t : Table) (x : List ℕ) (k o n w at : ℕ) : Type 0 where
  pub start : w < 2 → drop at x ≡ from_state t k o 0
  pub row : (state c : ℕ) → w ≡ 2 + (state * row_words k + c) → c < row_words k → state < n → drop at x ≡ ahead t k o state c

-- what a row that is read tells
pub record Rowed (x : List ℕ) (k o n state input at : ℕ) (r : Line) : Type 0 where
  pub inside : r.end ≤ length x
  pub next : r.next < 65536
  pub outs : r.outs < 65536
  pub is : (w v : ℕ) (rest : List ℕ) → w < 2 ^ o → v < n → drop at x ≡ row_head k state input ++ (row_tail o w v ++ rest) → (r.next ≡ v) × (r.outs ≡ w) × (drop r.end x ≡ rest)

-- what reading a row tells: where none is read, none stands
abbrev pub RowIs : List ℕ → ℕ → ℕ → ℕ → ℕ → ℕ → ℕ → Result Line ℕ → Type 0
RowIs x k o n state input at (Ok line) = Rowed x k o n state input at line
RowIs x k o n state input at (Err place) = (w v : ℕ) (rest : List ℕ) → w < 2 ^ o → v < n → ¬ (drop at x ≡ row_head k state input ++ (row_tail o w v ++ rest))

-- what reading a word tells
pub record WordIs (x : List ℕ) (k o n w at : ℕ) (r : Got) : Type 0 where
  pub inside : r.at ≤ length x
  pub is : (t : Table) → TextOf t x k o n → Ahead t x k o n w at → (r.value ≡ get_or (words_of t) w 0) × Ahead t x k o n (w + 1) r.at

-- what filling a piece tells
pub record PieceIs (x : List ℕ) (k o n w at : ℕ) (piece : List ℕ) (r : ℕ) : Type 0 where
  pub inside : r ≤ length x
  pub long : length piece ≡ 504
  pub is : (t : Table) → TextOf t x k o n → Ahead t x k o n w at
      → ((j : ℕ) → j < 504 → get_or piece j 0 ≡ get_or (stream_of t) (2 * w + j) 0) × Ahead t x k o n (w + 252) r

-- what putting a block tells
pub record BlockIs (x : List ℕ) (k o n b total at : ℕ) (before : List ℕ) (r : ℕ) (after : List ℕ) : Type 0 where
  pub inside : r ≤ length x
  pub long : length after ≡ length before
  pub is : (t : Table) → TextOf t x k o n → Ahead t x k o n (252 * b) at → (after ≡ with_block before b total (drop (504 * b) (stream_of t))) × Ahead t x k o n (252 * (b + 1)) r

-- what putting all blocks tells
pub record FileIs (x : List ℕ) (k o n total at : ℕ) (before after : List ℕ) : Type 0 where
  pub long : length after ≡ length before
  pub is : (t : Table) → TextOf t x k o n → Ahead t x k o n 0 at → after ≡ written total total (stream_of t) before
