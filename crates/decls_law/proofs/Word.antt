-- The value word of the declarations is the definition's initial word, where the bits fit.
-- Assumes nothing.
use mathlib.Core.Bool.{Bool, true, false, cond}
use mathlib.Core.Path.{◌≡◌, refl, sym, ◌∙◌, ap}
use mathlib.Core.List.{List, [], ◌∷◌}
use Prim.Native.Nat.{ℕ, ◌+◌, ◌*◌, ◌%◌, ◌^◌, ◌≤◌, ◌<◌}
use native.Mathlib.Omega.{arith}
use native.Mathlib.Nat.{mod-add-mod, mod-eq_of_lt, zero-mul, zero-add}
use lib.Dec.{leb}
use borrow.Author.Tests.{le-leb}
use Rattle.meaning.specs.Declared.{Declaration, inputs, outputs, internals, integers, output_count, an_output, other_bits, as_bit, value_at, initial_from, initial_word}
use Rattle.meaning.specs.Sizes.{bits_of, bits_from}
use Rattle.meaning.proofs.Declared.{other_count, bit_count, initial-below, bits_most}
use Rattle.names.specs.declared.Marks.{Marks}
use Rattle.names.specs.Enter.{cap, tag_of, start_of, number_for, start_value, put, enter, enter_all, start_marks}
use Rattle.names.proofs.Small.{power_high}

start_fits : (v w at : ℕ) → at + w ≤ 32 → start_value v w at ≡ v % 2 ^ w * 2 ^ at
unfolding start_value
start_fits v w at h = rw (le-leb (at + w) 32 h) refl

bit-small : (b : Bool) → as_bit b % 2 ^ 1 ≡ as_bit b
bit-small true = refl
bit-small false = refl

start_none : (at : ℕ) → start_value 0 0 at ≡ 0
unfolding start_value
start_none at = go (leb (at + 0) 32)
  where
    go : (t : Bool) → cond t (0 % 2 ^ 0 * 2 ^ at) 0 ≡ 0
    go true = zero-mul (2 ^ at)
    go false = refl

-- what a declaration adds
value_is : (d : Declaration) (m : Marks) (o b : ℕ) → m.outputs ≡ o → m.low ≡ b → o + an_output d ≤ 32 → b + other_bits d ≤ 32 → start_value (start_of d) (bits_of d) (number_for (tag_of d) m) ≡ value_at d o b
unfolding number_for
value_is (inputs n e) m o b p q h g = start_none m.inputs
value_is (outputs n e v) m o b p q h g = rw p (start_fits (as_bit v) 1 o h ∙ ap (λ (x : ℕ). x * 2 ^ o) (bit-small v))
value_is (internals n e v) m o b p q h g = rw q (start_fits (as_bit v) 1 b g ∙ ap (λ (x : ℕ). x * 2 ^ b) (bit-small v))
value_is (integers n k w v) m o b p q h g = rw q (start_fits v w b g)

module _ (s : List ℕ) where
  word-one : (d : Declaration) (m : Marks) (t : List ℕ) → (enter s d m t).marks.word ≡ (m.word + start_value (start_of d) (bits_of d) (number_for (tag_of d) m)) % 4294967296
  unfolding put
  word-one d m t = refl

  counts-one : (d : Declaration) (m : Marks) (t : List ℕ) → m.outputs + an_output d ≤ 32 → m.low + other_bits d ≤ 32 → ((enter s d m t).marks.outputs ≡ an_output d + m.outputs) × ((enter s d m t).marks.low ≡ other_bits d + m.low)
  unfolding put
  counts-one (inputs n e) m t h g = (omega arith, omega arith)
  counts-one (outputs n e v) m t h g = (omega arith, omega arith)
  counts-one (internals n e v) m t h g = (omega arith, omega arith)
  counts-one (integers n p w v) m t h g = (omega arith, omega arith)

  word_from_lem : (ds : List Declaration) (m : Marks) (t : List ℕ) → m.word < 4294967296 → m.outputs + output_count ds ≤ 32 → m.low + other_count ds ≤ 32
      → (enter_all s ds m t).marks.word ≡ (m.word + initial_from ds m.outputs m.low) % 4294967296
  unfolding enter_all output_count other_count initial_from
  word_from_lem [] m t k h g = let e : m.word + 0 ≡ m.word = omega arith in rw e (sym (mod-eq_of_lt k))
  word_from_lem (d ∷ ds) m t k h g =
      let n = (enter s d m t).marks in
      let (p, q) = counts-one d m t (omega arith) (omega arith) in
      let v = value_is d m m.outputs m.low refl refl (omega arith) (omega arith) in
      let w : n.word ≡ (m.word + value_at d m.outputs m.low) % 4294967296 = word-one d m t ∙ ap (λ (x : ℕ). (m.word + x) % 4294967296) v in
      let small : n.word < 4294967296 = omega (arith, w) in
      word_from_lem ds n (enter s d m t).bytes small (omega (arith, p)) (omega (arith, q))
      ∙ ap (λ (x : ℕ). (n.word + initial_from ds x n.low) % 4294967296) p
      ∙ ap (λ (x : ℕ). (n.word + initial_from ds (an_output d + m.outputs) x) % 4294967296) q
      ∙ ap (λ (x : ℕ). (x + initial_from ds (an_output d + m.outputs) (other_bits d + m.low)) % 4294967296) w
      ∙ mod-add-mod (m.word + value_at d m.outputs m.low) 4294967296 (initial_from ds (an_output d + m.outputs) (other_bits d + m.low))
      ∙ ap (λ (x : ℕ). x % 4294967296) (omega arith)

  -- where refusal 9 is not told of the bits
  pub word_is : (ds : List Declaration) (t : List ℕ) → bits_from 0 ds ≡ [] → (enter_all s ds (start_marks (cap (output_count ds))) t).marks.word ≡ initial_word ds
  unfolding start_marks initial_word
  word_is ds t e =
      let b = bits_most ds e in
      let c : cap (output_count ds) ≡ output_count ds = omega (arith, b) in
      let z = word_from_lem ds (start_marks (cap (output_count ds))) t (omega arith) (omega (arith, b)) (omega (arith, b, c)) in
      let i : initial_from ds 0 (output_count ds) < 4294967296 = omega (arith, initial-below ds, power_high (bit_count ds) 32 b) in
      z ∙ ap (λ (x : ℕ). (0 + initial_from ds 0 x) % 4294967296) c ∙ ap (λ (x : ℕ). x % 4294967296) (zero-add (initial_from ds 0 (output_count ds))) ∙ mod-eq_of_lt i
