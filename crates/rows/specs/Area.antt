-- How what a search found lies in the lent bytes: the index, a row to a state, and the next numbers.
-- Assumes nothing.
use Rattle.std.specs.Prelude.{◌≡◌, Bool, true, false, List, ℕ, ◌+◌, ◌*◌, ◌/◌, ◌%◌, ◌<◌, ◌≤◌, length, get_or}
use Rattle.file_law.specs.Answer.{listed}
use Rattle.file_law.specs.Bytes.{word2, word4, bytes_of}
use Rattle.runs.specs.Run.{empty}
use Rattle.runs.specs.declared.Entry.{Entry}
use Rattle.clock.specs.declared.State.{State}

-- an index of 1,280 slots of two bytes each: a state's first slot is below 1,024, and 256 are behind those
abbrev pub homes : ℕ
homes = 1024

abbrev pub slots : ℕ
slots = 1280

abbrev pub most_rows : ℕ
most_rows = 256

-- where the rows begin, 28 bytes each, and where the next numbers begin, 64 for each state
abbrev pub rows_at : ℕ
rows_at = 2560

abbrev pub nexts_at : ℕ
nexts_at = 9728

-- what slot j holds: 0, or 1 more than a state's number
unfoldable pub slot_in : List ℕ → ℕ → ℕ
slot_in l j = word2 (bytes_of l) (2 * j)

abbrev pub row_at : ℕ → ℕ
row_at i = rows_at + 28 * i

-- entry e of the row that begins at `at`: a place of two bytes, and a byte of clocks left behind the eight places
abbrev pub entry_in : List ℕ → ℕ → ℕ → Entry
entry_in l at e = record { place = word2 (bytes_of l) (at + 2 * e); left = get_or l (at + 16 + e) 0 }

-- the state whose row is row i
unfoldable pub row_in : List ℕ → ℕ → State
row_in l i = record { entries = listed (entry_in l (row_at i)) 8 0; word = word4 (bytes_of l) (row_at i + 24) }

-- the number of the next state from state i by input x
abbrev pub next_at : ℕ → ℕ → ℕ
next_at i x = nexts_at + 64 * i + x

unfoldable pub next_in : List ℕ → ℕ → ℕ → ℕ
next_in l i x = get_or l (next_at i x) 0

-- where a state is looked for first. Any function of the struct will do: no promise rests on which.
unfoldable pub hash_of : State → ℕ
hash_of s =
    (s.word * 40503
    + (get_or s.entries 0 empty).place * 30011 + (get_or s.entries 1 empty).place * 25717
    + (get_or s.entries 2 empty).place * 52711 + (get_or s.entries 3 empty).place * 17389
    + (get_or s.entries 0 empty).left * 60493 + (get_or s.entries 1 empty).left * 35969)
    / 64 % homes

-- whether row i is s
abbrev pub SameRow : List ℕ → ℕ → State → Bool → Type 0
SameRow l i s true = row_in l i ≡ s
SameRow l i s false = ¬ (row_in l i ≡ s)

-- no byte but those from `from` up to `to` changes
pub record Changed (from to : ℕ) (l k : List ℕ) : Type 0 where
  pub long : length k ≡ length l
  pub before : (j : ℕ) → j < from → get_or k j 0 ≡ get_or l j 0
  pub behind : (j : ℕ) → to ≤ j → get_or k j 0 ≡ get_or l j 0
