-- CRC-32 bit by bit, on lists of bytes. Document 01: "the usual reflected one, polynomial EDB88320, start and final complement".
-- Assumes nothing.
use Rattle.std.specs.Prelude.{◌≡◌, ℕ, zero, suc, ◌+◌, ◌-◌, ◌*◌, ◌/◌, ◌%◌, ◌^◌, ◌<◌, get_or, take, drop, List, [], ◌∷◌}
use Rattle.std.specs.Int.Bits.{bit_xor}

-- "polynomial EDB88320"
abbrev pub poly : ℕ
poly = 0xEDB88320

-- a register of 32 ones: what 0 is by the "start complement"
abbrev pub ones : ℕ
ones = 2 ^ 32 - 1

-- one step of the "reflected" register: it goes right by a bit, and where a 1 falls out the polynomial goes in
unfoldable pub step_bit : ℕ → ℕ
step_bit r = bit_xor (r / 2) (r % 2 * poly)

-- n steps, one after the other
unfoldable pub step_bits : ℕ → ℕ → ℕ
step_bits zero r = r
step_bits (suc n) r = step_bits n (step_bit r)

-- a byte goes into the low end of the register, and a step for each of its bits follows
unfoldable pub step_byte : ℕ → ℕ → ℕ
step_byte r b = step_bits 8 (bit_xor r b)

-- the register after a list of bytes, the first one first
unfoldable pub register : ℕ → List ℕ → ℕ
register r [] = r
register r (b ∷ s) = register (step_byte r b) s

-- the check of a list of bytes, with "start and final complement"
unfoldable pub crc_of : List ℕ → ℕ
crc_of s = ones - register ones s

-- the number that bytes stand for: "All numbers go low byte first"
unfoldable pub le_value : List ℕ → ℕ
le_value [] = 0
le_value (b ∷ s) = le_value s * 2 ^ 8 + b

-- every element is a byte
abbrev pub AllBytes : List ℕ → Type 0
AllBytes s = (k : ℕ) → get_or s k 0 < 256

-- behind its first n bytes s carries their check: "CRC-32 of the first 508"
abbrev pub Checked : ℕ → List ℕ → Type 0
Checked n s = le_value (drop n s) ≡ crc_of (take n s)
