-- Tries: which bits a clock is to set, and to what.
-- Assumes nothing.
use Rattle.std.specs.Prelude.{ℕ, ◌+◌, ◌-◌, ◌*◌, ◌^◌, Bool, true, false, cond, List, [], ◌∷◌}
use Rattle.std.specs.Int.Bits.{bit_and, bit_or, bit_xor}
use Rattle.meaning.specs.Tree.{Change, raise, lower, invert, Target, whole, part, Expr}
use Rattle.meaning.specs.Numbers.{Variable, input, boolean, integer, Reads, bit_of, low_bits, whole_of, value}

-- C2: the bits tried with one, and those tried with zero
pub record Tries : Type 0 where
  pub ones : ℕ
  pub zeros : ℕ

abbrev pub no_tries : Tries
no_tries = record { ones = 0; zeros = 0 }

-- the bits of a that are not in b
abbrev pub without : ℕ → ℕ → ℕ
without a b = bit_xor a (bit_and a b)

-- C2: bit j with a value, also with the one it has
abbrev pub try_bit : ℕ → Bool → Tries
try_bit j true = record { ones = 2 ^ j; zeros = 0 }
try_bit j false = record { ones = 0; zeros = 2 ^ j }

-- C3: what is tried
abbrev pub changed : Change → Bool → Bool
changed raise was = true
changed lower was = false
changed invert was = cond was false true

abbrev pub bit_at : Target Variable → ℕ
bit_at (whole (input i)) = 0
bit_at (whole (boolean j)) = j
bit_at (whole (integer low width)) = low
bit_at (part (input i) j) = 0
bit_at (part (boolean b) j) = b
bit_at (part (integer low width) j) = low + j

abbrev pub change_tries : Change → Target Variable → Reads → Tries
change_tries c t r = try_bit (bit_at t) (changed c (bit_of r.word (bit_at t)))

-- C3: every bit of an integer: those of v, from `low` on
abbrev pub try_bits : ℕ → ℕ → ℕ → Tries
try_bits low width v = record { ones = v * 2 ^ low; zeros = (2 ^ width - 1 - v) * 2 ^ low }

-- V3: the low bits of the value
abbrev pub assign_tries : Variable → Expr Variable → Reads → Tries
assign_tries (input i) e r = no_tries
assign_tries (boolean j) e r = no_tries
assign_tries (integer low width) e r = try_bits low width (low_bits width (whole_of (value e r)))

unfoldable pub all_ones : List Tries → ℕ
all_ones [] = 0
all_ones (t ∷ ts) = bit_or t.ones (all_ones ts)

unfoldable pub all_zeros : List Tries → ℕ
all_zeros [] = 0
all_zeros (t ∷ ts) = bit_or t.zeros (all_zeros ts)

-- C9: tried with one value it is tried with it, with both it is not
abbrev pub agreed : List Tries → Tries
agreed ts = record { ones = without (all_ones ts) (all_zeros ts); zeros = without (all_zeros ts) (all_ones ts) }

-- the values after the clock
abbrev pub taken : Tries → ℕ → ℕ
taken t word = without (bit_or word t.ones) t.zeros
