-- What the answer of a file's shape says of the sizes, and opening's tests of the content in the shape's terms.
-- Assumes nothing.
use mathlib.Core.Path.{◌≡◌, refl, sym, ap, ◌∙◌}
use Prim.Native.Nat.{ℕ, ◌-◌, ◌*◌, ◌/◌, ◌<◌}
use native.Mathlib.Omega.{arith}
use mathlib.Core.Bool.{Bool, true, false}
use mathlib.Core.List.{List}
use lib.ListN.{length}
use lib.Dec.{eqb}
use borrow.Author.Tests.{eqb-true, eqb-false, eq-eqb, ne_eqb}
use Rattle.file_law.specs.Answer.{gives, refuses, bad_length, bad_content, unless, both, every}
use Rattle.file_law.specs.Reading.{length_good, stream_in, inputs_in, outputs_in, states_in, sizes_good, blocks_for, stream_length, clear_at, zero_at, nexts_good, rows_good, content_good, Within, Sizes, sizes_in}
use Rattle.file_law.specs.Stepping.{shape_good, Shape, shape_answer}
use Rattle.file_law.proofs.Answers.{never}
use Rattle.file_law.proofs.Tests.{Whole, whole, short-length, shape, shape_good_lem, shape_long, within, sizes-good}

-- the sizes that a file states
pub record Stated (f : List ℕ) (k o n : ℕ) : Type 0 where
  pub inputs : k ≡ inputs_in (stream_in f)
  pub outputs : o ≡ outputs_in (stream_in f)
  pub states : n ≡ states_in (stream_in f)

-- ---- from the tests to the answer

pub too_short : (f : List ℕ) → length f < 512 → refuses bad_length 0 ≡ shape_answer f
unfolding shape_answer
too_short f h = simp (short-length _ h)

-- no shape: the length still decides
no_shape : (f : List ℕ) → shape_good f ≡ false → unless (length_good (length f)) (refuses bad_length 0) (refuses bad_content 0) ≡ shape_answer f
unfolding shape_answer
no_shape f e = simp e

module _ {f : List ℕ} {k o n : ℕ} (s : Stated f k o n) where
  same-sizes : sizes_good (inputs_in (stream_in f)) (outputs_in (stream_in f)) (states_in (stream_in f)) ≡ sizes_good k o n
  same-sizes = rw (s.inputs, s.outputs, s.states)

  same_blocks : 512 * blocks_for (inputs_in (stream_in f)) (states_in (stream_in f)) ≡ 512 * blocks_for k n
  same_blocks = rw (s.inputs, s.states)

  pub odd_sizes : sizes_good k o n ≡ false → unless (length_good (length f)) (refuses bad_length 0) (refuses bad_content 0) ≡ shape_answer f
  unfolding shape_good
  odd_sizes e = no_shape f (simp (same-sizes ∙ e))

  pub odd_length : sizes_good k o n ≡ true → (length f ≡ 512 * blocks_for k n → ⊥) → unless (length_good (length f)) (refuses bad_length 0) (refuses bad_content 0) ≡ shape_answer f
  unfolding shape_good
  odd_length e h = no_shape f (simp (same-sizes ∙ e, ne_eqb _ _ (λ x. h (x ∙ same_blocks))))

  pub sound : sizes_good k o n ≡ true → length f ≡ 512 * blocks_for k n → gives (record { inputs = k; outputs = o; states = n }) ≡ shape_answer f
  unfolding shape_answer
  sound e h =
      let w : Shape f = record { long = omega arith; size = within _ _ _ (same-sizes ∙ e); exact = h ∙ sym same_blocks } in
      simp (s.inputs, s.outputs, s.states, shape_long w, shape_good_lem w)

-- ---- from the answer to the tests

-- a file of the right length for the sizes k, o and n that it states
pub record Shaped (f : List ℕ) (k o n : ℕ) : Type 0 where
  pub long : length_good (length f) ≡ true
  pub good : shape_good f ≡ true
  pub stated : Stated f k o n
  pub size : Within k o n
  pub exact : length f ≡ 512 * blocks_for k n

pub shaped : (f : List ℕ) {k o n : ℕ} → gives (record { inputs = k; outputs = o; states = n }) ≡ shape_answer f → Shaped f k o n
unfolding shape_answer
shaped f {k} {o} {n} e = by_test (length_good (length f)) (shape_good f) refl refl e
  where
    by_test : (l g : Bool) → length_good (length f) ≡ l → shape_good f ≡ g → gives (record { inputs = k; outputs = o; states = n }) ≡ unless l (refuses bad_length 0) (unless g (refuses bad_content 0) (gives (sizes_in (stream_in f)))) → Shaped f k o n
    by_test true true l g e =
        let s = shape f g in
        let z : record { inputs = k; outputs = o; states = n } ≡ sizes_in (stream_in f) = cc in
        let hk : k ≡ inputs_in (stream_in f) = ap (λ (x : Sizes). x.inputs) z in
        let ho : o ≡ outputs_in (stream_in f) = ap (λ (x : Sizes). x.outputs) z in
        let hn : n ≡ states_in (stream_in f) = ap (λ (x : Sizes). x.states) z in
        record { long = l; good = g; stated = record { inputs = hk; outputs = ho; states = hn }; size = rw (hk, ho, hn) s.size; exact = rw (hk, hn) s.exact }
    by_test true false l g e = absurd (never e)
    by_test false g₀ l g e = absurd (never e)

pub unshaped : (f : List ℕ) {number at : ℕ} → refuses number at ≡ shape_answer f → shape_good f ≡ false
unfolding shape_answer
unshaped f {number} {at} e = by_test (shape_good f) refl
  where
    by_test : (g : Bool) → shape_good f ≡ g → shape_good f ≡ false
    by_test false g = g
    by_test true g = absurd (never {a = sizes_in (stream_in f)} (sym (e ∙ simp (shape_long (shape f g), g))))

-- ---- the content of whole blocks: the shape, and then the rows

block_test : (bytes x : ℕ) → Whole bytes → eqb x (bytes / 512) ≡ eqb bytes (512 * x)
block_test n x w = by_test (eqb x (n / 512)) refl
  where
    by_test : (b : Bool) → eqb x (n / 512) ≡ b → eqb x (n / 512) ≡ eqb n (512 * x)
    by_test true e = e ∙ sym (eq-eqb n (512 * x) (omega (arith, eqb-true x (n / 512) e, w.whole)))
    by_test false e = e ∙ sym (ne_eqb n (512 * x) (λ h. eqb-false x (n / 512) e (omega arith)))

both_assoc : (a b c : Bool) → both a (both b c) ≡ both (both a b) c
both_assoc true b c = refl
both_assoc false b c = refl

pub content_shaped : {f : List ℕ} {k o n : ℕ} → Shaped f k o n → content_good (stream_in f) (length f / 512) ≡ rows_good (stream_in f) (blocks_for k n) k o n
unfolding content_good
content_shaped {f} {k} {o} {n} s =
    let t : length f / 512 ≡ blocks_for k n = omega (arith, s.exact) in
    simp (t, sym s.stated.inputs, sym s.stated.outputs, sym s.stated.states, sizes-good s.size)

module _ (f : List ℕ) (w : length_good (length f) ≡ true) where
  abbrev rest : ℕ → ℕ → ℕ → Bool
  rest k o n =
      both (every (clear_at (stream_in f) k o) n 0)
      (both (every (zero_at (stream_in f)) (504 * (length f / 512) - stream_length k n) (stream_length k n))
      (every (nexts_good (stream_in f) k n) n 0))

  content : content_good (stream_in f) (length f / 512) ≡ both (shape_good f) (rest (inputs_in (stream_in f)) (outputs_in (stream_in f)) (states_in (stream_in f)))
  unfolding content_good rows_good shape_good
  content =
      let h = whole (length f) w in
      let k = inputs_in (stream_in f) in
      let o = outputs_in (stream_in f) in
      let n = states_in (stream_in f) in
      both_assoc (sizes_good k o n) (eqb (blocks_for k n) (length f / 512)) (rest k o n)
      ∙ simp (block_test (length f) (blocks_for k n) h)

  pub content_unshaped : shape_good f ≡ false → content_good (stream_in f) (length f / 512) ≡ false
  content_unshaped e = content ∙ ap (λ (g : Bool). both g (rest (inputs_in (stream_in f)) (outputs_in (stream_in f)) (states_in (stream_in f)))) e
