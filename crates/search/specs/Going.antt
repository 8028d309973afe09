-- What holds while the states are searched, and what the search promises.
-- Assumes nothing.
use Rattle.std.specs.Prelude.{◌≡◌, List, ℕ, ◌+◌, ◌*◌, ◌<◌, ◌≤◌, length, Option, Some, None}
use Rattle.file_law.specs.Answer.{listed}
use Rattle.reach_law.specs.Machine.{Machine}
use Rattle.reach_law.specs.Count.{TooMany}
use Rattle.reach_law.specs.Numbering.{Before, Numbering, Next, Follows}
use Rattle.reach_law.proofs.Part.{Part}
use Rattle.meaning.specs.States.{State}
use Rattle.clock.specs.Step.{state_from, Canon}
use Rattle.clock.specs.declared.State as code
use Rattle.rows.specs.Area.{most_rows, nexts_at, row_in, next_in}
use Rattle.index.specs.Indexed.{Indexed}

-- the first n states
unfoldable pub states_in : List ℕ → ℕ → List State
states_in l n = listed (λ i. state_from (row_in l i)) n 0

-- the sizes of a search
pub record Sized (m : Machine State) (room : ℕ) (l : List ℕ) : Type 0 where
  pub few : room ≤ most_rows
  pub inputs : m.inputs ≤ 64
  pub area : nexts_at + 64 * room ≤ length l

-- n states are found, and each state and input before state i with input x is done
pub record Going (m : Machine State) (room : ℕ) (l : List ℕ) (n i x : ℕ) : Type 0 where
  pub sized : Sized m room l
  pub fits : n ≤ room
  pub indexed : Indexed l n
  pub canon : (j : ℕ) → j < n → Canon (row_in l j)
  pub part : Part m (states_in l n) i x
  pub nexts : (j y : ℕ) → y < m.inputs → Before j y i x → Next m (states_in l n) j y (next_in l j y)

-- while state i is looked at
pub record InRow (m : Machine State) (room : ℕ) (l : List ℕ) (n i x : ℕ) (s : code.State) : Type 0 where
  pub going : Going m room l n i x
  pub here : i < n
  pub stands : row_in l i ≡ s

-- after a state
abbrev pub RowDone : Machine State → ℕ → List ℕ → ℕ → Option ℕ → List ℕ → Type 0
RowDone m room l i (Some n) k = Going m room k n (i + 1) 0 × (length k ≡ length l)
RowDone m room l i None k = TooMany m room × (length k ≡ length l)

-- n states: these are they, numbered, and these their next numbers
pub record Found (m : Machine State) (room : ℕ) (l : List ℕ) (n : ℕ) : Type 0 where
  pub fits : n ≤ room
  pub numbers : Numbering m (states_in l n)
  pub follows : Follows m (states_in l n) (next_in l)

-- "the numbering where it fits", with the next numbers, or "reachable states above the room"
abbrev pub Searched : Machine State → ℕ → List ℕ → Option ℕ → List ℕ → Type 0
Searched m room l (Some n) k = Found m room k n × (length k ≡ length l)
Searched m room l None k = TooMany m room × (length k ≡ length l)
