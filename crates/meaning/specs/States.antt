-- What counts as one state, the start, and the state after a clock.
-- Assumes nothing.
use Rattle.std.specs.Prelude.{ℕ, ◌^◌, ◌%◌, List, []}
use Rattle.meaning.specs.Tree.{Stmts}
use Rattle.meaning.specs.Numbers.{Variable}
use Rattle.meaning.specs.Tries.{taken}
use Rattle.meaning.specs.Clock.{Entry, After, done, stands, Outcome, finishes, jumps, waits, widened, first, resume_all}

-- Z8
abbrev pub most_activities : ℕ
most_activities = 8

-- S1: eight places, and one word of all bits that are no input
pub record State : Type 0 where
  pub entries : List Entry
  pub word : ℕ

-- a checked program: its inputs and outputs by number, its bits at the start, and its statements
pub record Program : Type 0 where
  pub inputs : ℕ
  pub outputs : ℕ
  pub initial : ℕ
  pub body : Stmts Variable

abbrev pub standing : After → List Entry
standing done = widened most_activities []
standing (stands es) = widened most_activities es

-- S4: the start
unfoldable pub start_state : Program → State
start_state p = record { entries = standing (first p.body); word = p.initial }

-- C10: behind the last statement nothing changes any more, nor in the clock of an end in no time
abbrev pub settled : Outcome → ℕ → State
settled finishes word = record { entries = standing done; word = word }
settled (jumps j) word = record { entries = standing done; word = word }
settled (waits t a) word = record { entries = standing a; word = taken t word }

-- S5: one clock with the inputs of that number
unfoldable pub step_state : Program → State → ℕ → State
step_state p s input = settled (resume_all p.body s.entries (record { word = s.word; inputs = input })) s.word

-- the outputs' bits: they are the lowest of the word, first declared lowest
unfoldable pub outputs_of : Program → State → ℕ
outputs_of p s = s.word % 2 ^ p.outputs
