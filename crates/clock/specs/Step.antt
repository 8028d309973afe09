-- A state as the code has it, and what a clock and the start promise.
-- Assumes nothing.
use Rattle.std.specs.Prelude.{◌≡◌, ℕ, ◌*◌, ◌<◌, ◌≤◌, cond, List, map, replicate}
use Rattle.std.specs.Int.Bits.{bit_or, bit_and}
use Rattle.meaning.specs.Tries.{without}
use Rattle.meaning.specs.States.{Program, start_state, step_state}
use Rattle.meaning.specs.States as meaning
use Rattle.nodes.specs.Decode.{list_at}
use Rattle.runs.specs.declared.Entry.{Entry}
use Rattle.runs.specs.declared.Buffer.{Buffer}
use Rattle.runs.specs.declared.How.{How}
use Rattle.runs.specs.Run.{empty, entry_of, window, is_waiting}
use Rattle.clock.specs.declared.State.{State}
use Rattle.clock.specs.declared.Clocked.{Clocked}

-- no activity stands anywhere
abbrev pub eight : List Entry
eight = replicate 8 empty

-- the struct of a state
abbrev pub state_of : meaning.State → State
state_of s = record { entries = map entry_of s.entries; word = s.word }

-- .. and the state of a struct
abbrev pub state_from : State → meaning.State
state_from s = record { entries = window s.entries 0 8; word = s.word }

-- the one struct of its state
abbrev pub Canon : State → Type 0
Canon s = state_of (state_from s) ≡ s

-- the state after a clock that ended as h, with the buffer l
abbrev pub settled_in : Buffer → How → ℕ → State
settled_in l h word = record { entries = l.entries; word = cond (is_waiting h) (without (bit_or word l.ones) l.zeros) word }

-- r is the first state of each program that the n statements and case tests from 0 on are, where a tree holds them
pub record Starts (n word : ℕ) (r : State) : Type 0 where
  pub first : (t : List ℕ) (left : ℕ) (p : Program) → 3 * n ≤ left → p.body ≡ list_at left t 0 n → p.initial ≡ word → r ≡ state_of (start_state p)

-- the next state by an input, and the bits of it that were looked at: inputs that agree on them lead to the same state
pub record Clocks (t : List ℕ) (n left : ℕ) (s : State) (input : ℕ) (r : Clocked) : Type 0 where
  pub next : (p : Program) → p.body ≡ list_at left t 0 n → r.state ≡ state_of (step_state p (state_from s) input)
  pub unseen : (p : Program) → p.body ≡ list_at left t 0 n → (y : ℕ) → y < 64 → bit_and y r.looked ≡ bit_and input r.looked → step_state p (state_from s) y ≡ step_state p (state_from s) input
