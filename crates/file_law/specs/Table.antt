-- A table: for each state its outputs and, for each input, the next state.
-- Assumes nothing.
use Rattle.std.specs.Prelude.{◌≡◌, ℕ, ◌^◌, ◌≤◌, ◌<◌, List, [], ◌∷◌, length, get_or}

-- Z2, Z10
abbrev pub most_inputs : ℕ
most_inputs = 6

abbrev pub most_outputs : ℕ
most_outputs = 16

abbrev pub most_states : ℕ
most_states = 256

-- F1: the row of a state
pub record Row : Type 0 where
  pub outputs : ℕ
  pub nexts : List ℕ

-- F1: the sizes; the rows are N
pub record Table : Type 0 where
  pub inputs : ℕ
  pub outputs : ℕ
  pub rows : List Row

abbrev pub no_row : Row
no_row = record { outputs = 0; nexts = [] }

abbrev pub row_of : Table → ℕ → Row
row_of t state = get_or t.rows state no_row

abbrev pub outputs_of : Table → ℕ → ℕ
outputs_of t state = (row_of t state).outputs

abbrev pub next_of : Table → ℕ → ℕ → ℕ
next_of t state input = get_or (row_of t state).nexts input 0

-- a row within the sizes: no spare output bit, a next state for each input, each of them in the table
pub record RowFits (t : Table) (r : Row) : Type 0 where
  pub clear : r.outputs < 2 ^ t.outputs
  pub wide : length r.nexts ≡ 2 ^ t.inputs
  pub inside : (input : ℕ) → input < 2 ^ t.inputs → get_or r.nexts input 0 < length t.rows

-- a table within the sizes
pub record Fits (t : Table) : Type 0 where
  pub inputs : t.inputs ≤ most_inputs
  pub outputs : t.outputs ≤ most_outputs
  pub some : 1 ≤ length t.rows
  pub states : length t.rows ≤ most_states
  pub each : (state : ℕ) → state < length t.rows → RowFits t (row_of t state)

-- F6: the running record
pub record Running : Type 0 where
  pub state : ℕ
  pub outputs : ℕ

abbrev pub standing : Table → ℕ → Running
standing t state = record { state = state; outputs = outputs_of t state }

-- after each clock of a run that starts in a state
unfoldable pub clocks : Table → ℕ → List ℕ → List Running
clocks t state [] = []
clocks t state (input ∷ inputs) = standing t (next_of t state input) ∷ clocks t (next_of t state input) inputs

-- F6, S4: at the start and after each clock
unfoldable pub table_run : Table → List ℕ → List Running
table_run t inputs = standing t 0 ∷ clocks t 0 inputs
