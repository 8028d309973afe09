-- Parts with no operands, and their values.
-- Assumes nothing.
use Rattle.std.specs.Prelude.{◌+◌, ◌<◌, ◌≤◌, ◌^◌, ◌/◌, ◌%◌, Bool, true, false, ℤ, pos}
use Rattle.meaning.specs.Numbers.{Reads, bit_of, as_number}
use Rattle.nodes.specs.declared.Kind.{Kind}
use Rattle.nodes.specs.declared.Kind.TheVariants.{Literal, Truth, Input, Boolean, Integer, Bit, Not, Int, Arithmetic, Comparison, Logic}

abbrev pub is_leaf : Kind → Bool
is_leaf (Literal n) = true
is_leaf (Truth b) = true
is_leaf (Input i) = true
is_leaf (Boolean j) = true
is_leaf (Integer low width) = true
is_leaf (Bit low width j) = true
is_leaf (Not a) = false
is_leaf (Int a) = false
is_leaf (Arithmetic o a b) = false
is_leaf (Comparison o a b) = false
is_leaf (Logic o a b) = false

-- its bits lie in the word
abbrev pub Leaf : Kind → Type 0
Leaf (Literal n) = Unit {0}
Leaf (Truth b) = Unit {0}
Leaf (Input i) = i < 32
Leaf (Boolean j) = j < 32
Leaf (Integer low width) = (low < 32) × (width ≤ 16)
Leaf (Bit low width j) = low + j < 32
Leaf (Not a) = ⊥
Leaf (Int a) = ⊥
Leaf (Arithmetic o a b) = ⊥
Leaf (Comparison o a b) = ⊥
Leaf (Logic o a b) = ⊥

abbrev pub leaf_of : Kind → Reads → ℤ
leaf_of (Literal n) r = pos n
leaf_of (Truth b) r = as_number b
leaf_of (Input i) r = as_number (bit_of r.inputs i)
leaf_of (Boolean j) r = as_number (bit_of r.word j)
leaf_of (Integer low width) r = pos (r.word / 2 ^ low % 2 ^ width)
leaf_of (Bit low width j) r = as_number (bit_of r.word (low + j))
leaf_of (Not a) r = pos 0
leaf_of (Int a) r = pos 0
leaf_of (Arithmetic o a b) r = pos 0
leaf_of (Comparison o a b) r = pos 0
leaf_of (Logic o a b) r = pos 0
