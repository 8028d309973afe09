-- The machine of a program, and its table.
-- Assumes nothing.
use Rattle.std.specs.Prelude.{◌≡◌, List, ℕ, ◌^◌, ◌<◌, length, get_or}
use Rattle.reach_law.specs.Machine.{Machine}
use Rattle.reach_law.specs.Numbering.{Next}
use Rattle.file_law.specs.Table.{Table, row_of, next_of}
use Rattle.file_law.specs.Table as file
use Rattle.meaning.specs.States.{Program, State, start_state, step_state, outputs_of}

-- S5: the inputs are one number below 2^k
unfoldable pub machine_of : Program → Machine State
machine_of p = record { start = start_state p; step = step_state p; inputs = 2 ^ p.inputs }

-- F1: the table of a program whose states are numbered so
pub record Tabled (p : Program) (states : List State) (t : Table) : Type 0 where
  pub inputs : t.inputs ≡ p.inputs
  pub outputs : t.outputs ≡ p.outputs
  pub size : length t.rows ≡ length states
  pub wide : (i : ℕ) → i < length states → length (row_of t i).nexts ≡ 2 ^ p.inputs
  pub shows : (i : ℕ) → i < length states → file.outputs_of t i ≡ outputs_of p (get_or states i (start_state p))
  pub leads : (i x : ℕ) → i < length states → x < 2 ^ p.inputs → Next (machine_of p) states i x (next_of t i x)
