-- Expressions whose kinds and sizes are right.
-- Assumes nothing.
use Rattle.std.specs.Prelude.{◌≡◌, ℕ, ◌+◌, ◌-◌, ◌<◌, ◌≤◌, ◌^◌, Bool, true, false}
use Rattle.meaning.specs.Tree.{Comparison, equal, unequal, greater, less, Expr, literal, truth, variable, bit, not, int, arithmetic, comparison, logic}
use Rattle.meaning.specs.Numbers.{Variable, input, boolean, integer}
use Rattle.meaning.specs.Worst.{combined}

abbrev pub is_whole_variable : Variable → Bool
is_whole_variable (input i) = false
is_whole_variable (boolean j) = false
is_whole_variable (integer low width) = true

abbrev pub is_whole : Expr Variable → Bool
is_whole (literal p n) = true
is_whole (truth p b) = false
is_whole (variable v) = is_whole_variable v
is_whole (bit v j) = false
is_whole (not p e) = false
is_whole (int p e) = true
is_whole (arithmetic o p a b) = true
is_whole (comparison o p a b) = false
is_whole (logic o p a b) = false

abbrev pub variable_size : Variable → ℕ
variable_size (input i) = 0
variable_size (boolean j) = 0
variable_size (integer low width) = 2 ^ width - 1

-- as `worst` of a source
unfoldable pub size_of : Expr Variable → ℕ
size_of (literal p n) = n
size_of (truth p b) = 0
size_of (variable v) = variable_size v
size_of (bit v j) = 0
size_of (not p e) = 0
size_of (int p e) = 1
size_of (arithmetic o p a b) = combined o (size_of a) (size_of b)
size_of (comparison o p a b) = 0
size_of (logic o p a b) = 0

abbrev pub FitVariable : Variable → Type 0
FitVariable (input i) = i < 32
FitVariable (boolean j) = j < 32
FitVariable (integer low width) = (low < 32) × (width ≤ 16)

abbrev pub FitBit : Variable → ℕ → Type 0
FitBit (input i) j = ⊥
FitBit (boolean b) j = ⊥
FitBit (integer low width) j = low + j < 32

-- `==` and `!=` take two of one kind, `>` and `<` two integers
abbrev pub FitKinds : Comparison → Bool → Bool → Type 0
FitKinds equal a b = a ≡ b
FitKinds unequal a b = a ≡ b
FitKinds greater a b = (a ≡ true) × (b ≡ true)
FitKinds less a b = (a ≡ true) × (b ≡ true)

unfoldable pub Fit : Expr Variable → Type 0
Fit (literal p n) = Unit {0}
Fit (truth p b) = Unit {0}
Fit (variable v) = FitVariable v
Fit (bit v j) = FitBit v j
Fit (not p e) = (is_whole e ≡ false) × Fit e
Fit (int p e) = (is_whole e ≡ false) × Fit e
Fit (arithmetic o p a b) = (combined o (size_of a) (size_of b) < 2147483648) × ((is_whole a ≡ true) × ((is_whole b ≡ true) × (Fit a × Fit b)))
Fit (comparison o p a b) = FitKinds o (is_whole a) (is_whole b) × (Fit a × Fit b)
Fit (logic o p a b) = (is_whole a ≡ false) × ((is_whole b ≡ false) × (Fit a × Fit b))
