-- The machine of the program that a tree holds.
-- Assumes nothing.
use Rattle.std.specs.Prelude.{List, ℕ}
use Rattle.reach_law.specs.Machine.{Machine}
use Rattle.meaning.specs.States.{Program, State, start_state, step_state}
use Rattle.nodes.specs.Decode.{list_at}
use Rattle.search.specs.declared.Task.{Task}

-- a program with the tree's statements, and the word at the start; its machine has no use for the numbers of inputs and outputs
abbrev pub program_in : List ℕ → Task → Program
program_in t k = record { inputs = 0; outputs = 0; initial = k.word; body = list_at k.left t 0 k.count }

-- .. and its machine
abbrev pub machine_in : List ℕ → Task → Machine State
machine_in t k = record { start = start_state (program_in t k); step = step_state (program_in t k); inputs = k.inputs }
