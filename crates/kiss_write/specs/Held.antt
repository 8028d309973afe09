-- The rows of the text of a sound file, as the file holds them.
-- Assumes nothing.
use Rattle.std.specs.Prelude.{◌≡◌, List, ◌++◌, ℕ, ◌-◌, ◌*◌, ◌^◌, ◌<◌, length}
use Rattle.file_law.specs.Answer.{listed}
use Rattle.file_law.specs.Reading.{stream_in, blocks_for, Within, outputs_at, next_at, row_in}
use Rattle.kiss_law.specs.Text.{ascii, heading, state_rows, all_rows}

-- the rows of a state, from an input on
unfoldable pub held_state : (ℕ → ℕ) → ℕ → ℕ → ℕ → ℕ → List ℕ
held_state b k o state input = state_rows k o state (outputs_at b k state) input (listed (next_at b k state) (2 ^ k - input) input)

-- .. of all states, from one on
unfoldable pub held_rows : (ℕ → ℕ) → ℕ → ℕ → ℕ → ℕ → List ℕ
held_rows b k o n state = all_rows k o state (listed (row_in b k) (n - state) state)

-- the whole text
unfoldable pub held_text : (ℕ → ℕ) → ℕ → ℕ → ℕ → List ℕ
held_text b k o n = heading k o n ++ (held_rows b k o n 0 ++ ascii ".e\n")

-- what a sound file with the sizes k, o and n is known by
pub record Holds (f : List ℕ) (k o n : ℕ) : Type 0 where
  pub size : Within k o n
  pub exact : length f ≡ 512 * blocks_for k n
  pub clear : (state : ℕ) → state < n → outputs_at (stream_in f) k state < 2 ^ o
  pub inside : (state input : ℕ) → state < n → input < 2 ^ k → next_at (stream_in f) k state input < n
