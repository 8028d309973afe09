-- What is declared, what each name then stands for, and the checked program.
-- Assumes nothing.
use Rattle.std.specs.Prelude.{ℕ, ◌+◌, ◌*◌, ◌%◌, ◌^◌, Bool, true, false, cond, List, [], ◌∷◌, eqb}
use Rattle.std.proofs.Math.Option.{Option, none, some}
use Rattle.meaning.specs.Tree.{Name, Stmts}
use Rattle.meaning.specs.Numbers.{Variable, input, boolean, integer}

-- G3: an ending changes nothing
pub data Ending : Type 0 where
  high low : Ending

-- G2, G3, G4: what is declared; an integer's width stands at its own place
pub data Declaration : Type 0 where
  inputs : Name → Ending → Declaration
  outputs : Name → Ending → Bool → Declaration
  internals : Name → Ending → Bool → Declaration
  integers : Name → ℕ → ℕ → ℕ → Declaration

-- G1: a program
pub record Source : Type 0 where
  pub name : List ℕ
  pub declared : List Declaration
  pub body : Stmts Name

abbrev pub name_of : Declaration → Name
name_of (inputs n e) = n
name_of (outputs n e b) = n
name_of (internals n e b) = n
name_of (integers n p w v) = n

-- W2: the same name has the same bytes
unfoldable pub same_bytes : List ℕ → List ℕ → Bool
same_bytes [] [] = true
same_bytes [] (y ∷ t) = false
same_bytes (x ∷ s) [] = false
same_bytes (x ∷ s) (y ∷ t) = cond (eqb x y) (same_bytes s t) false

abbrev pub one : Declaration → ℕ
one (inputs n e) = 1
one (outputs n e b) = 0
one (internals n e b) = 0
one (integers n p w v) = 0

-- how many inputs, and how many outputs
unfoldable pub input_count : List Declaration → ℕ
input_count [] = 0
input_count (d ∷ ds) = one d + input_count ds

abbrev pub an_output : Declaration → ℕ
an_output (inputs n e) = 0
an_output (outputs n e b) = 1
an_output (internals n e b) = 0
an_output (integers n p w v) = 0

unfoldable pub output_count : List Declaration → ℕ
output_count [] = 0
output_count (d ∷ ds) = an_output d + output_count ds

-- the bits that a declaration adds behind the outputs
abbrev pub other_bits : Declaration → ℕ
other_bits (inputs n e) = 0
other_bits (outputs n e b) = 0
other_bits (internals n e b) = 1
other_bits (integers n p w v) = w

-- what a declaration's name stands for, with so many inputs, outputs and other bits before it
abbrev pub stands_for : Declaration → ℕ → ℕ → ℕ → Variable
stands_for (inputs n e) i o b = input i
stands_for (outputs n e v) i o b = boolean o
stands_for (internals n e v) i o b = boolean b
stands_for (integers n p w v) i o b = integer b w

unfoldable pub look_from : List Declaration → List ℕ → ℕ → ℕ → ℕ → Option Variable
look_from [] x i o b = none
look_from (d ∷ ds) x i o b =
    cond (same_bytes (name_of d).bytes x) (some (stands_for d i o b))
    (look_from ds x (one d + i) (an_output d + o) (other_bits d + b))

-- S5: inputs by number, the first declared lowest; of the value word the outputs take the low bits in declared order, and the others follow
unfoldable pub look_up : List Declaration → List ℕ → Option Variable
look_up ds x = look_from ds x 0 0 (output_count ds)

-- ---- the initial values

abbrev pub as_bit : Bool → ℕ
as_bit true = 1
as_bit false = 0

-- V3: the low bits; without an initial value false or 0
abbrev pub value_at : Declaration → ℕ → ℕ → ℕ
value_at (inputs n e) o b = 0
value_at (outputs n e v) o b = as_bit v * 2 ^ o
value_at (internals n e v) o b = as_bit v * 2 ^ b
value_at (integers n p w v) o b = v % 2 ^ w * 2 ^ b

unfoldable pub initial_from : List Declaration → ℕ → ℕ → ℕ
initial_from [] o b = 0
initial_from (d ∷ ds) o b = value_at d o b + initial_from ds (an_output d + o) (other_bits d + b)

unfoldable pub initial_word : List Declaration → ℕ
initial_word ds = initial_from ds 0 (output_count ds)
