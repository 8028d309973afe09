-- Inputs that a clock did not tell apart need no clock of their own.
-- Assumes nothing.
use Rattle.std.specs.Prelude.{◌≡◌, List, ℕ, ◌+◌, ◌<◌, length, get_or, Option, Some, None}
use Rattle.std.specs.Int.Bits.{bit_and}
use Rattle.reach_law.specs.Machine.{Machine}
use Rattle.reach_law.specs.Count.{TooMany}
use Rattle.meaning.specs.States.{State}
use Rattle.clock.specs.Step.{state_from}
use Rattle.clock.specs.declared.State as code
use Rattle.search.specs.Going.{InRow}
use Rattle.search.specs.declared.Met.{Met}

-- input bits that are not in `looked` did not matter: every input that agrees with x on it leads where x does
abbrev pub Unseen : (State → ℕ → State) → State → ℕ → ℕ → Type 0
Unseen step s x looked = (y : ℕ) → y < 64 → bit_and y looked ≡ bit_and x looked → step s y ≡ step s x

-- the mask of each input below x says what its clock looked at
abbrev pub Masks : Machine State → State → List ℕ → ℕ → Type 0
Masks m s masks x = (y : ℕ) → y < x → Unseen m.step s y (get_or masks y 0)

-- an input below x that x was not told apart from, or none
abbrev pub Earlier : List ℕ → ℕ → Option ℕ → Type 0
Earlier masks x (Some r) = (r < x) × (bit_and x (get_or masks r 0) ≡ bit_and r (get_or masks r 0))
Earlier masks x None = Unit {0}

-- after a clock
abbrev pub StepDone : Machine State → ℕ → List ℕ → ℕ → ℕ → code.State → Option Met → List ℕ → Type 0
StepDone m room l i x s (Some r) k = InRow m room k r.states i (x + 1) s × Unseen m.step (state_from s) x r.looked × (length k ≡ length l)
StepDone m room l i x s None k = TooMany m room × (length k ≡ length l)
