-- The table that the search's area holds, and what writing its file promises.
-- Assumes nothing.
use Rattle.std.specs.Prelude.{◌≡◌, List, ◌++◌, ℕ, ◌+◌, ◌*◌, ◌/◌, ◌%◌, ◌^◌, ◌<◌, ◌≤◌, length, get_or, drop, Option, Some, None}
use Rattle.file_law.specs.Answer.{listed}
use Rattle.file_law.specs.Table.{Row, Table, most_inputs, most_outputs, most_states}
use Rattle.file_law.specs.File.{stream_of}
use Rattle.rows.specs.Area.{nexts_at, row_in, next_in}

-- the row of state i: its word's low bits, and its next numbers
abbrev pub row_from : List ℕ → ℕ → ℕ → ℕ → Row
row_from l k o i = record { outputs = (row_in l i).word % 2 ^ o; nexts = listed (next_in l i) (2 ^ k) 0 }

unfoldable pub table_from : List ℕ → ℕ → ℕ → ℕ → Table
table_from l k o n = record { inputs = k; outputs = o; rows = listed (row_from l k o) n 0 }

unfoldable pub stream_from : List ℕ → ℕ → ℕ → ℕ → List ℕ
stream_from l k o n = stream_of (table_from l k o n)

-- sizes that are in bounds
pub record Small (l : List ℕ) (k o n : ℕ) : Type 0 where
  pub inputs : k ≤ most_inputs
  pub outputs : o ≤ most_outputs
  pub states : n ≤ most_states
  pub area : nexts_at + 64 * n ≤ length l

-- r is word w of the stream s, and 0 behind its end
pub record WordIs (s : List ℕ) (w r : ℕ) : Type 0 where
  pub low : get_or s (2 * w) 0 ≡ r % 256
  pub high : get_or s (2 * w + 1) 0 ≡ r / 256 % 256

-- the file where it fits, with what the buffer has behind it; else nothing
abbrev pub Wrote : List ℕ → List ℕ → Option ℕ → List ℕ → Type 0
Wrote before file (Some n) after = (length file ≤ length before) × (after ≡ file ++ drop (length file) before) × (length file ≡ 512 * n)
Wrote before file None after = (length before < length file) × (after ≡ before)
