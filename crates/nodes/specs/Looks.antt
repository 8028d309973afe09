-- The input bits that an expression reads.
-- Assumes nothing.
use Rattle.std.specs.Prelude.{ℕ, ◌^◌}
use Rattle.std.specs.Int.Bits.{bit_or}
use Rattle.meaning.specs.Tree.{Expr, literal, truth, variable, bit, not, int, arithmetic, comparison, logic}
use Rattle.meaning.specs.Numbers.{Variable, input, boolean, integer}

abbrev pub looks_of : Variable → ℕ
looks_of (input i) = 2 ^ i
looks_of (boolean j) = 0
looks_of (integer low width) = 0

unfoldable pub looks : Expr Variable → ℕ
looks (literal p n) = 0
looks (truth p b) = 0
looks (variable v) = looks_of v
looks (bit v j) = 0
looks (not p e) = looks e
looks (int p e) = looks e
looks (arithmetic o p a b) = bit_or (looks a) (looks b)
looks (comparison o p a b) = bit_or (looks a) (looks b)
looks (logic o p a b) = bit_or (looks a) (looks b)
