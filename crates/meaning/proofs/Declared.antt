-- The bits of a declared variable lie below the number of non-input bits, and so does the initial word.
-- Assumes nothing.
use mathlib.Core.Path.{◌≡◌, refl, ap}
use mathlib.Core.Bool.{Bool, true, false, cond}
use mathlib.Core.List.{List, [], ◌∷◌}
use mathlib.Core.Option.{Option, none, some}
use Prim.Native.Nat.{ℕ, ◌+◌, ◌*◌, ◌%◌, ◌^◌, ◌≤◌, ◌<◌}
use native.Mathlib.Nat.{mod-lt, le_refl, mul-le-mul_right, one-mul, zero-mul, suc-mul, zero-add, add-zero}
use native.Mathlib.Omega.{arith}
use borrow.Author.Tests.{ltb-false}
use lib.Dec.{ltb}
use lib.Pow.{pow_pos, pow-add}
use Rattle.meaning.specs.Numbers.{Variable, input, boolean, integer}
use Rattle.meaning.specs.Declared.{Declaration, inputs, outputs, internals, integers, name_of, same_bytes, one, output_count, an_output, other_bits, stands_for, look_from, look_up, as_bit, value_at, initial_from, initial_word}
use Rattle.meaning.specs.Names.{when}
use Rattle.meaning.specs.Sizes.{most_bits, bits_of, bits_from}
use Rattle.meaning.proofs.Lists.{both-empty}

-- the bits behind the outputs, and "every non-input bit"
unfoldable pub other_count : List Declaration → ℕ
other_count [] = 0
other_count (d ∷ ds) = other_bits d + other_count ds

abbrev pub bit_count : List Declaration → ℕ
bit_count ds = output_count ds + other_count ds

-- the variable's bits lie below k
abbrev pub Below : ℕ → Variable → Type 0
Below k (input i) = Unit {0}
Below k (boolean j) = j < k
Below k (integer low width) = low + width ≤ k

abbrev pub Found : ℕ → Option Variable → Type 0
Found k none = Unit {0}
Found k (some v) = Below k v

found-cond : (k : ℕ) (t : Bool) (v : Variable) (next : Option Variable) → Below k v → Found k next → Found k (cond t (some v) next)
found-cond k true v next p q = p
found-cond k false v next p q = q

stands-below : (k : ℕ) (d : Declaration) (i o b : ℕ) → o + an_output d ≤ k → b + other_bits d ≤ k → Below k (stands_for d i o b)
stands-below k (inputs n e) i o b h g = tt
stands-below k (outputs n e v) i o b h g = omega arith
stands-below k (internals n e v) i o b h g = omega arith
stands-below k (integers n p w v) i o b h g = g

found_from : (k : ℕ) (ds : List Declaration) (x : List ℕ) (i o b : ℕ)
    → o + output_count ds ≤ k → b + other_count ds ≤ k → Found k (look_from ds x i o b)
unfolding output_count other_count look_from
found_from k [] x i o b h g = tt
found_from k (d ∷ ds) x i o b h g =
    found-cond k (same_bytes (name_of d).bytes x) (stands_for d i o b) _
    (stands-below k d i o b (omega arith) (omega arith))
    (found_from k ds x (one d + i) (an_output d + o) (other_bits d + b) (omega arith) (omega arith))

pub found_below : (ds : List Declaration) (x : List ℕ) → Found (bit_count ds) (look_up ds x)
unfolding look_up
found_below ds x = found_from (bit_count ds) ds x 0 0 (output_count ds) (omega arith) (le_refl (bit_count ds))

-- ---- the initial word

bit-room : (v : Bool) (j : ℕ) → as_bit v * 2 ^ j + 2 ^ j ≤ 2 ^ (1 + j)
bit-room true j = omega (arith, one-mul (2 ^ j), pow-add 2 1 j)
bit-room false j = omega (arith, zero-mul (2 ^ j), pow-add 2 1 j)

field_room : (v w b : ℕ) → v % 2 ^ w * 2 ^ b + 2 ^ b ≤ 2 ^ (w + b)
field_room v w b = omega (arith, suc-mul (v % 2 ^ w) (2 ^ b), mul-le-mul_right (2 ^ b) (mod-lt v (pow_pos w)), pow-add 2 w b)

-- a declaration's value leaves room for all that stands before it
value_room : (d : Declaration) (o b : ℕ) → value_at d o b + 2 ^ o + 2 ^ b ≤ 2 ^ (an_output d + o) + 2 ^ (other_bits d + b)
value_room (inputs n e) o b = omega (arith, ap (λ (x : ℕ). 2 ^ x) (zero-add o), ap (λ (x : ℕ). 2 ^ x) (zero-add b))
value_room (outputs n e v) o b = omega (arith, bit-room v o, ap (λ (x : ℕ). 2 ^ x) (zero-add b))
value_room (internals n e v) o b = omega (arith, bit-room v b, ap (λ (x : ℕ). 2 ^ x) (zero-add o))
value_room (integers n p w v) o b = omega (arith, field_room v w b, ap (λ (x : ℕ). 2 ^ x) (zero-add o))

initial-room : (ds : List Declaration) (o b : ℕ) → initial_from ds o b + 2 ^ o + 2 ^ b ≤ 2 ^ (o + output_count ds) + 2 ^ (b + other_count ds)
unfolding output_count other_count initial_from
initial-room [] o b = omega (arith, ap (λ (x : ℕ). 2 ^ x) (add-zero o), ap (λ (x : ℕ). 2 ^ x) (add-zero b))
initial-room (d ∷ ds) o b =
    let p : 2 ^ (o + (an_output d + output_count ds)) ≡ 2 ^ (an_output d + o + output_count ds) = ap (λ (x : ℕ). 2 ^ x) (omega arith) in
    let q : 2 ^ (b + (other_bits d + other_count ds)) ≡ 2 ^ (other_bits d + b + other_count ds) = ap (λ (x : ℕ). 2 ^ x) (omega arith) in
    omega (arith, value_room d o b, initial-room ds (an_output d + o) (other_bits d + b))

pub initial-below : (ds : List Declaration) → initial_word ds < 2 ^ bit_count ds
unfolding initial_word
initial-below ds = omega (arith, initial-room ds 0 (output_count ds), ap (λ (x : ℕ). 2 ^ x) (zero-add (output_count ds)))

-- ---- "non-input bits 32"

pub bits-two : (d : Declaration) → bits_of d ≡ an_output d + other_bits d
bits-two (inputs n e) = refl
bits-two (outputs n e b) = refl
bits-two (internals n e b) = refl
bits-two (integers n p w v) = omega arith

pub when-none : (t : Bool) (p : ℕ) → when t p ≡ [] → t ≡ false
when-none true p e = cc
when-none false p e = refl

bits-within : (before : ℕ) (ds : List Declaration) → before ≤ most_bits → bits_from before ds ≡ [] → before + bit_count ds ≤ most_bits
unfolding output_count other_count bits_from
bits-within before [] h e = omega arith
bits-within before (d ∷ ds) h e =
    let (p, q) = both-empty (when (ltb most_bits (before + bits_of d)) (name_of d).place) (bits_from (before + bits_of d) ds) e in
    let k : before + bits_of d ≤ most_bits = ltb-false most_bits (before + bits_of d) (when-none (ltb most_bits (before + bits_of d)) (name_of d).place p) in
    omega (arith, bits-within (before + bits_of d) ds k q, bits-two d)

pub bits_most : (ds : List Declaration) → bits_from 0 ds ≡ [] → bit_count ds ≤ most_bits
bits_most ds e = omega (arith, bits-within 0 ds (omega arith) e)
