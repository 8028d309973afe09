-- The declared names in bytes, four a name: its place, with its kind above it, its length, and its number or lowest bit. What a name stands for by them.
-- Assumes nothing.
use Rattle.std.specs.Prelude.{ℕ, zero, suc, ◌+◌, ◌*◌, ◌/◌, ◌%◌, cond, List, ◌==◌, slice_index, slice_set}
use Rattle.std.proofs.Math.Option.{Option, none, some}
use Rattle.meaning.specs.Numbers.{Variable, input, boolean, integer}
use Rattle.language.specs.Words.{same}
use Rattle.language.specs.Scan.{Next, found, stops, over, next_word, behind}
use Rattle.words.specs.Runs.{part}
use Rattle.words.specs.Meaning.{worth}

-- the value of the second word from a place on: "integer name[width]", read again behind the name
unfoldable pub value_of : Next → ℕ
value_of (found w) = worth w.kind w.bytes
value_of (stops e) = 0
value_of over = 0

-- .. where this is the first word
unfoldable pub second_of : List ℕ → Next → ℕ
second_of s (found w) = value_of (next_word s (behind w))
second_of s (stops e) = 0
second_of s over = 0

-- .. read from a place on
unfoldable pub width_at : List ℕ → ℕ → ℕ
width_at s from = second_of s (next_word s from)

-- the place of the name of entry i, in 13 bits
unfoldable pub place_at : List ℕ → ℕ → ℕ
place_at t i = slice_index t (i * 4) + slice_index t (i * 4 + 1) % 32 * 256

-- the place behind the name
unfoldable pub end_at : List ℕ → ℕ → ℕ
end_at t i = place_at t i + slice_index t (i * 4 + 2)

-- its kind, above them
unfoldable pub kind_at : List ℕ → ℕ → ℕ
kind_at t i = slice_index t (i * 4 + 1) / 32

-- kinds: 0 an input, 1 an output, 2 an internal boolean, 3 an integer, with its number and its width
unfoldable pub variable_by : ℕ → ℕ → ℕ → Variable
variable_by k n w = cond (k == 0) (input n) (cond (k == 3) (integer n w) (boolean n))

-- what entry i stands for
unfoldable pub entry_at : List ℕ → List ℕ → ℕ → Variable
entry_at s t i = variable_by (kind_at t i) (slice_index t (i * 4 + 3)) (width_at s (end_at t i))

-- the first of k entries from i on that has these bytes
unfoldable pub look_from : List ℕ → List ℕ → List ℕ → ℕ → ℕ → Option Variable
look_from s t x zero i = none
look_from s t x (suc k) i = cond (same (part s (place_at t i) (end_at t i)) x) (some (entry_at s t i)) (look_from s t x k (i + 1))

-- what bytes stand for, among n entries
unfoldable pub look_in : List ℕ → List ℕ → ℕ → List ℕ → Option Variable
look_in s t n x = look_from s t x n 0

-- an entry written
unfoldable pub put_entry : List ℕ → ℕ → ℕ → ℕ → ℕ → ℕ → List ℕ
put_entry t i p k len n = slice_set (slice_set (slice_set (slice_set t (i * 4) (p % 256)) (i * 4 + 1) (p / 256 + k * 32)) (i * 4 + 2) len) (i * 4 + 3) n
