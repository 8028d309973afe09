-- What the code has, in the definition's terms.
-- Assumes nothing.
use Rattle.std.specs.Prelude.{ℕ, List, Option as Optional, Some, None}
use Rattle.std.proofs.Math.Option.{Option, none, some}
use Rattle.meaning.specs.Numbers.{Variable, input, boolean, integer}
use Rattle.names.specs.declared.Marks.{Marks}
use Rattle.names.specs.declared.Variable.{Variable as Told}
use Rattle.names.specs.declared.Variable.TheVariants.{Input, Boolean, Integer}
use Rattle.names.specs.Enter.{Kept}

-- a variable
abbrev pub meant : Told → Variable
meant (Input i) = input i
meant (Boolean j) = boolean j
meant (Integer low width) = integer low width

-- what was found
abbrev pub variable_of : Optional Told → Option Variable
variable_of None = none
variable_of (Some v) = some (meant v)

-- the marks, and the bytes of the entries
abbrev pub kept_of : Marks → List ℕ → Kept
kept_of m t = record { marks = m; bytes = t }
