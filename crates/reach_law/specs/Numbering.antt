-- The numbers of the states: state j of a list L is get_or L j. No search is in these definitions.
-- Assumes nothing.
use Rattle.std.specs.Prelude.{◌≡◌, ◌⊎◌, ℕ, ◌<◌, ◌≤◌, length, get_or, take}
use Rattle.std.proofs.Math.Option.{Option, none, some}
use mathlib.Core.List.{List, ◌∷◌, Memᴰ}
use Rattle.reach_law.specs.Machine.{Machine}
use Rattle.reach_law.specs.Count.{Lists, TooMany}

-- "going through states in number order and inputs in rising order": state i with input x comes before state j with input y
abbrev pub Before : ℕ → ℕ → ℕ → ℕ → Type 0
Before i x j y = (i < j) ⊎ ((i ≡ j) × (x < y))

module _ {S : Type 0} where
  -- "as first met": state j is met from an earlier state by an input, and each state and input before those lead to a state below j
  pub record FirstMet (m : Machine S) (L : List S) (j : ℕ) : Type 0 where
    pub from : ℕ
    pub by : ℕ
    pub earlier : from < j
    pub input : by < m.inputs
    pub meets : m.step (get_or L from m.start) by ≡ get_or L j m.start
    pub first : (i x : ℕ) → x < m.inputs → Before i x from by → Memᴰ (m.step (get_or L i m.start) x) (take j L)

  -- "State 0 is the start; states are numbered as first met"
  pub record Numbering (m : Machine S) (L : List S) : Type 0 where
    pub lists : Lists m L
    pub begins : (rest : List S) × (L ≡ m.start ∷ rest)
    pub met : (j : ℕ) → 0 < j → j < length L → FirstMet m L j

  -- what is said for a room: the numbering where it fits, else none, for "reachable states above the room"
  abbrev pub Answers : Machine S → ℕ → Option (List S) → Type 0
  Answers m room (some L) = Numbering m L × (length L ≤ room)
  Answers m room none = TooMany m room

  -- "next states": from state i input x leads to state j
  pub record Next (m : Machine S) (L : List S) (i x j : ℕ) : Type 0 where
    pub inside : j < length L
    pub leads : m.step (get_or L i m.start) x ≡ get_or L j m.start

  -- a function of numbers that gives each of these next states
  abbrev pub Follows : Machine S → List S → (ℕ → ℕ → ℕ) → Type 0
  Follows m L next = (i x : ℕ) → i < length L → x < m.inputs → Next m L i x (next i x)

  -- "State 0 is the start": the machine on the numbers
  abbrev pub numbered : Machine S → (ℕ → ℕ → ℕ) → Machine ℕ
  numbered m next = record { start = 0; step = next; inputs = m.inputs }
