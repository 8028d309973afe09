-- Blink and a program that does nothing, with their tables, by computation.
-- Assumes nothing.
use mathlib.Core.Path.{refl}
use mathlib.Core.List.{List, [], ◌∷◌}
use Prim.Native.Nat.{ℕ}
use Rattle.file_law.specs.Table.{Table}
use Rattle.language.specs.Words.{bytes}
use Rattle.language.proofs.Compiled.{Says, says}
use Rattle.language.proofs.Computing.{yield_in}

-- "Blink, complete"
abbrev pub blink_text : List ℕ
blink_text = bytes "program blink; input GO; output LAMP; loop if GO then invert(LAMP) endif endloop endprog"

abbrev pub blink : Table
blink = record { inputs = 1; outputs = 1; rows = record { outputs = 0; nexts = 0 ∷ 1 ∷ [] } ∷ record { outputs = 1; nexts = 1 ∷ 0 ∷ [] } ∷ [] }

pub blink_says : Says blink_text blink
unfolding yield_in
blink_says = says "program blink; input GO; output LAMP; loop if GO then invert(LAMP) endif endloop endprog" _ blink refl

-- "`loop skip endloop`: 1 state"
abbrev pub idle_text : List ℕ
idle_text = bytes "program p; loop skip endloop endprog"

abbrev pub idle : Table
idle = record { inputs = 0; outputs = 0; rows = record { outputs = 0; nexts = 0 ∷ [] } ∷ [] }

pub idle-says : Says idle_text idle
unfolding yield_in
idle-says = says "program p; loop skip endloop endprog" _ idle refl
