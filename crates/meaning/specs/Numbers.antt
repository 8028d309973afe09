-- Numbers: exact whole values, what a variable stands for, and what an expression comes to.
-- Assumes nothing.
use Rattle.std.specs.Prelude.{ℕ, zero, suc, ◌+◌, ◌-◌, ◌/◌, ◌%◌, ◌^◌, Bool, true, false, cond, not as opposite, eqb, ℤ, pos, negsuc, ◌+ℤ◌, ◌-ℤ◌, ◌*ℤ◌}
use Rattle.std.specs.Int.Signed.{quot_z, rem_z, lt_z}
use Rattle.meaning.specs.Tree.{Arithmetic, plus, minus, times, quotient, remainder, Comparison, equal, unequal, greater, less, Logic, and, or, Expr, literal, truth, variable, bit, not, int, arithmetic, comparison, logic}

-- what a name stands for: an input by its number, a boolean by its bit of the value word, an integer by its lowest bit and width
pub data Variable : Type 0 where
  input : ℕ → Variable
  boolean : ℕ → Variable
  integer : ℕ → ℕ → Variable

-- C1: what a clock reads: the values at its start, and its inputs
pub record Reads : Type 0 where
  pub word : ℕ
  pub inputs : ℕ

abbrev pub is_one : ℕ → Bool
is_one n = eqb n 1

-- bit j of a number
abbrev pub bit_of : ℕ → ℕ → Bool
bit_of n j = is_one (n / 2 ^ j % 2)

-- V2: toward zero; by 0 it is 0
abbrev pub over : ℤ → ℤ → ℤ
over a (pos zero) = pos 0
over a (pos (suc n)) = quot_z a (pos (suc n))
over a (negsuc n) = quot_z a (negsuc n)

-- V2: the sign of the left operand; by 0 it is that operand
abbrev pub rest : ℤ → ℤ → ℤ
rest a (pos zero) = a
rest a (pos (suc n)) = rem_z a (pos (suc n))
rest a (negsuc n) = rem_z a (negsuc n)

-- V3: w low bits in two's complement; those of -(n + 1) are n with every bit turned
abbrev pub low_bits : ℕ → ℤ → ℕ
low_bits w (pos n) = n % 2 ^ w
low_bits w (negsuc n) = 2 ^ w - 1 - n % 2 ^ w

pub data Value : Type 0 where
  whole : ℤ → Value
  bool : Bool → Value

abbrev pub whole_of : Value → ℤ
whole_of (whole z) = z
whole_of (bool b) = pos 0

abbrev pub bool_of : Value → Bool
bool_of (whole z) = false
bool_of (bool b) = b

-- V1: exact
abbrev pub compute : Arithmetic → ℤ → ℤ → ℤ
compute plus a b = a +ℤ b
compute minus a b = a -ℤ b
compute times a b = a *ℤ b
compute quotient a b = over a b
compute remainder a b = rest a b

abbrev pub same_bool : Bool → Bool → Bool
same_bool true b = b
same_bool false b = opposite b

-- neither is less
abbrev pub same_whole : ℤ → ℤ → Bool
same_whole a b = cond (lt_z a b) false (opposite (lt_z b a))

-- `==` of two booleans or of two integers
abbrev pub same : Value → Value → Bool
same (whole a) (whole b) = same_whole a b
same (whole a) (bool b) = false
same (bool a) (whole b) = false
same (bool a) (bool b) = same_bool a b

abbrev pub compare : Comparison → Value → Value → Bool
compare equal a b = same a b
compare unequal a b = opposite (same a b)
compare greater a b = lt_z (whole_of b) (whole_of a)
compare less a b = lt_z (whole_of a) (whole_of b)

abbrev pub combine : Logic → Bool → Bool → Bool
combine and a b = cond a b false
combine or a b = cond a true b

-- V4: `int`
abbrev pub as_number : Bool → ℤ
as_number true = pos 1
as_number false = pos 0

abbrev pub read : Variable → Reads → Value
read (input i) r = bool (bit_of r.inputs i)
read (boolean j) r = bool (bit_of r.word j)
read (integer low width) r = whole (pos (r.word / 2 ^ low % 2 ^ width))

-- V4: bit 0 is the lowest
abbrev pub read_bit : Variable → ℕ → Reads → Value
read_bit (input i) j r = bool false
read_bit (boolean b) j r = bool false
read_bit (integer low width) j r = bool (bit_of r.word (low + j))

unfoldable pub value : Expr Variable → Reads → Value
value (literal p n) r = whole (pos n)
value (truth p b) r = bool b
value (variable v) r = read v r
value (bit v j) r = read_bit v j r
value (not p e) r = bool (opposite (bool_of (value e r)))
value (int p e) r = whole (as_number (bool_of (value e r)))
value (arithmetic o p a b) r = whole (compute o (whole_of (value a r)) (whole_of (value b r)))
value (comparison o p a b) r = bool (compare o (value a r) (value b r))
value (logic o p a b) r = bool (combine o (bool_of (value a r)) (bool_of (value b r)))

-- a test, as `if`, `while` and `case` make it
abbrev pub holds : Expr Variable → Reads → Bool
holds e r = bool_of (value e r)
