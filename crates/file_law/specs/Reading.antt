-- The table file, read: what opening answers.
-- Assumes nothing.
use Rattle.std.specs.Prelude.{ℕ, ◌+◌, ◌-◌, ◌*◌, ◌/◌, ◌%◌, ◌^◌, ◌≤◌, Bool, List, leb, ltb, eqb, length, get_or, take, drop}
use Rattle.crc_law.specs.Crc.{crc_of}
use Rattle.file_law.specs.Answer.{Answer, gives, refuses, bad_length, bad_number, bad_check, bad_content, unless, both, every, first_not, listed}
use Rattle.file_law.specs.Bytes.{word2, word4, bytes_of}
use Rattle.file_law.specs.Table.{most_inputs, most_outputs, most_states, Row, Table}
use Rattle.file_law.specs.File.{block_count}

-- F4: the largest file
abbrev pub most_blocks : ℕ
most_blocks = 67

-- F5: the length
abbrev pub length_good : ℕ → Bool
length_good bytes = both (leb 1 bytes) (both (eqb (bytes % 512) 0) (leb (bytes / 512) most_blocks))

-- F5: block n of the file has the right number and total
unfoldable pub number_good : List ℕ → ℕ → ℕ → Bool
number_good f total n = both (eqb (word2 (bytes_of f) (512 * n)) n) (eqb (word2 (bytes_of f) (512 * n + 2)) total)

-- F5: .. and the right check
unfoldable pub check_good : List ℕ → ℕ → Bool
check_good f n = eqb (word4 (bytes_of f) (512 * n + 508)) (crc_of (take 508 (drop (512 * n) f)))

unfoldable pub block_good : List ℕ → ℕ → ℕ → Bool
block_good f total n = both (number_good f total n) (check_good f n)

-- F5: what is broken in a block that is not good
unfoldable pub block_fault : List ℕ → ℕ → ℕ → ℕ
block_fault f total n = unless (number_good f total n) bad_number bad_check

-- where byte j of the stream stands: in its block's piece, past number and total
abbrev pub place : ℕ → ℕ
place j = 512 * (j / 504) + 4 + j % 504

-- each byte of the stream that the file holds, its filling included
unfoldable pub stream_in : List ℕ → ℕ → ℕ
stream_in f j = get_or f (place j) 0

-- F1: the sizes
abbrev pub inputs_in : (ℕ → ℕ) → ℕ
inputs_in b = b 0

abbrev pub outputs_in : (ℕ → ℕ) → ℕ
outputs_in b = b 1

abbrev pub states_in : (ℕ → ℕ) → ℕ
states_in b = word2 b 2

-- F1: the length of a row, and where a state's row begins
abbrev pub row_length : ℕ → ℕ
row_length k = 2 + 2 * 2 ^ k

abbrev pub row_at : ℕ → ℕ → ℕ
row_at k state = 4 + state * row_length k

abbrev pub stream_length : ℕ → ℕ → ℕ
stream_length k n = 4 + n * row_length k

abbrev pub blocks_for : ℕ → ℕ → ℕ
blocks_for k n = block_count (stream_length k n)

-- the outputs of a state and its next state on an input, in a stream of k inputs
unfoldable pub outputs_at : (ℕ → ℕ) → ℕ → ℕ → ℕ
outputs_at b k state = word2 b (row_at k state)

unfoldable pub next_at : (ℕ → ℕ) → ℕ → ℕ → ℕ → ℕ
next_at b k state input = word2 b (row_at k state + 2 + 2 * input)

-- F5: sizes in their range
abbrev pub sizes_good : ℕ → ℕ → ℕ → Bool
sizes_good k o n = both (leb k most_inputs) (both (leb o most_outputs) (both (leb 1 n) (leb n most_states)))

-- the same as facts, by name
pub record Within (k o n : ℕ) : Type 0 where
  pub inputs : k ≤ most_inputs
  pub outputs : o ≤ most_outputs
  pub some : 1 ≤ n
  pub states : n ≤ most_states

-- F5: bits at and above the number of outputs
abbrev pub clear_at : (ℕ → ℕ) → ℕ → ℕ → ℕ → Bool
clear_at b k o state = ltb (outputs_at b k state) (2 ^ o)

-- F5: filling
abbrev pub zero_at : (ℕ → ℕ) → ℕ → Bool
zero_at b j = eqb (b j) 0

-- F5: next states
abbrev pub next_good : (ℕ → ℕ) → ℕ → ℕ → ℕ → ℕ → Bool
next_good b k n state input = ltb (next_at b k state input) n

abbrev pub nexts_good : (ℕ → ℕ) → ℕ → ℕ → ℕ → Bool
nexts_good b k n state = every (next_good b k n state) (2 ^ k) 0

-- F5: the content
unfoldable pub rows_good : (ℕ → ℕ) → ℕ → ℕ → ℕ → ℕ → Bool
rows_good b total k o n =
    both (eqb (blocks_for k n) total)
    (both (every (clear_at b k o) n 0)
    (both (every (zero_at b) (504 * total - stream_length k n) (stream_length k n))
    (every (nexts_good b k n) n 0)))

-- F5: the sizes, then the content
unfoldable pub content_good : (ℕ → ℕ) → ℕ → Bool
content_good b total =
    both (sizes_good (inputs_in b) (outputs_in b) (states_in b)) (rows_good b total (inputs_in b) (outputs_in b) (states_in b))

pub record Sizes : Type 0 where
  pub inputs : ℕ
  pub outputs : ℕ
  pub states : ℕ

abbrev pub sizes_in : (ℕ → ℕ) → Sizes
sizes_in b = record { inputs = inputs_in b; outputs = outputs_in b; states = states_in b }

-- the first block that is not good decides, and then the content
unfoldable pub blocks_answer : List ℕ → ℕ → Answer Sizes
blocks_answer f total =
    unless (every (block_good f total) total 0) (refuses (block_fault f total (first_not (block_good f total) total 0)) (first_not (block_good f total) total 0))
    (unless (content_good (stream_in f) total) (refuses bad_content 0)
    (gives (sizes_in (stream_in f))))

-- F5: opening; all that is not refused is accepted
unfoldable pub open_answer : List ℕ → Answer Sizes
open_answer f = unless (length_good (length f)) (refuses bad_length 0) (blocks_answer f (length f / 512))

-- ---- the table that a stream holds

abbrev pub row_in : (ℕ → ℕ) → ℕ → ℕ → Row
row_in b k state = record { outputs = outputs_at b k state; nexts = listed (next_at b k state) (2 ^ k) 0 }

unfoldable pub table_in : (ℕ → ℕ) → Table
table_in b = record { inputs = inputs_in b; outputs = outputs_in b; rows = listed (row_in b (inputs_in b)) (states_in b) 0 }
