-- Values as one whole number.
-- Assumes nothing.
use Rattle.std.specs.Prelude.{zero, suc, Bool, true, false, not as opposite, ℤ, pos, negsuc}
use Rattle.std.specs.Int.Signed.{lt_z}
use Rattle.meaning.specs.Tree.{Comparison, equal, unequal, greater, less, Logic, and, or}
use Rattle.meaning.specs.Numbers.{Value, whole, bool, same_whole, as_number}

-- a truth is 1 or 0
abbrev pub flat : Value → ℤ
flat (whole z) = z
flat (bool b) = as_number b

abbrev pub truth_of : ℤ → Bool
truth_of (pos zero) = false
truth_of (pos (suc n)) = true
truth_of (negsuc n) = true

abbrev pub compare_z : Comparison → ℤ → ℤ → Bool
compare_z equal a b = same_whole a b
compare_z unequal a b = opposite (same_whole a b)
compare_z greater a b = lt_z b a
compare_z less a b = lt_z a b

-- the first operand decides
abbrev pub decides : Logic → ℤ → Bool
decides and a = opposite (truth_of a)
decides or a = truth_of a
