-- Rows of `+` and `-`.
-- Assumes nothing.
use Rattle.std.specs.Prelude.{ℕ, Bool, Option, Some, None, true, false, ℤ, pos, ◌-ℤ◌}
use Rattle.nodes.specs.declared.Sum.{Sum}
use Rattle.nodes.specs.declared.Sum.TheVariants.{Plus, Minus, Times, Quotient, Remainder}
use Rattle.nodes.specs.declared.Kind.{Kind}
use Rattle.nodes.specs.declared.Kind.TheVariants.{Literal, Truth, Input, Boolean, Integer, Bit, Not, Int, Arithmetic, Comparison, Logic}

abbrev pub adds : Sum → Bool
adds Plus = true
adds Minus = true
adds Times = false
adds Quotient = false
adds Remainder = false

-- what the operator adds to its left operand
abbrev pub signed : Sum → ℤ → ℤ
signed Plus y = y
signed Minus y = pos 0 -ℤ y
signed Times y = y
signed Quotient y = y
signed Remainder y = y

abbrev pub row_of : Sum → ℕ → ℕ → Option (Sum × ℕ × ℕ)
row_of Plus a b = Some (Plus, a, b)
row_of Minus a b = Some (Minus, a, b)
row_of Times a b = None
row_of Quotient a b = None
row_of Remainder a b = None

abbrev pub term_of : Kind → Option (Sum × ℕ × ℕ)
term_of (Literal n) = None
term_of (Truth b) = None
term_of (Input i) = None
term_of (Boolean j) = None
term_of (Integer low width) = None
term_of (Bit low width j) = None
term_of (Not a) = None
term_of (Int a) = None
term_of (Arithmetic o a b) = row_of o a b
term_of (Comparison o a b) = None
term_of (Logic o a b) = None
