-- The numbers that C gets from open, step and outputs tell the answers.
-- Assumes nothing.
use mathlib.Core.Path.{◌≡◌, refl, sym, ap, ap₂, ◌∙◌, subst}
use mathlib.Core.Bool.{Bool, true, false}
use mathlib.Core.List.{List}
use Prim.Native.Nat.{ℕ, ◌+◌, ◌/◌, ◌^◌, ◌≤◌, ◌<◌}
use native.Mathlib.Omega.{arith}
use lib.Dec.{ltb}
use lib.ListN.{length}
use lib.Pow.{pow_mono}
use Rattle.file_law.specs.Answer.{Answer, gives, refuses, bad_length, bad_number, bad_check, bad_content, unless, both, every, first_not}
use Rattle.file_law.specs.Table.{Running}
use Rattle.file_law.specs.Reading.{most_blocks, length_good, number_good, block_good, block_fault, stream_in, inputs_in, outputs_in, outputs_at, next_at, clear_at, content_good, Sizes, sizes_in, blocks_answer, open_answer}
use Rattle.file_law.specs.Stepping.{shape_good, shape_first, stand_answer, move_answer, step_answer, look_answer, outputs_answer, start_in, start_answer, step_code, outputs_code, open_code}
use Rattle.file_law.proofs.Every.{first-bound}
use Rattle.file_law.proofs.Tests.{whole}
use Rattle.file_law.proofs.Codes.{Stood, step-stood, outputs-stood, outputs_fit}
use Rattle.file_law.proofs.Sound.{sound}

-- what holds of both ways on holds of the answer
either : {A : Type 0} (P : Answer A → Type 0) (t : Bool) {a b : Answer A} → P a → P b → P (unless t a b)
either P true x y = y
either P false x y = x

-- ---- open

-- state 0 with outputs of 16 bits, or a refusal at a place that is no larger than the largest file, in blocks
abbrev Opened : Answer Running → Type 0
Opened (gives r) = (r.state ≡ 0) × (r.outputs < 65536)
Opened (refuses number place) = (1 ≤ number) × (place ≤ most_blocks)

abbrev Near : Answer Sizes → Type 0
Near (gives z) = Unit
Near (refuses number place) = (1 ≤ number) × (place ≤ most_blocks)

module _ (f : List ℕ) where
  fault-some : (t : Bool) → 1 ≤ unless t bad_number bad_check
  fault-some true = omega arith
  fault-some false = omega arith

  blocks-near : (total : ℕ) → total ≤ most_blocks → Near (blocks_answer f total)
  unfolding blocks_answer block_fault
  blocks-near total h =
      let content : Near (unless (content_good (stream_in f) total) (refuses bad_content 0) (gives (sizes_in (stream_in f)))) = either Near (content_good (stream_in f) total) (omega arith, omega arith) tt in
      either Near (every (block_good f total) total 0) (fault-some (number_good f total (first_not (block_good f total) total 0)), omega (arith, first-bound (block_good f total) total 0)) content

  open_near : Near (open_answer f)
  unfolding open_answer
  open_near = by (length_good (length f)) refl
    where
      by : (t : Bool) → length_good (length f) ≡ t → Near (unless t (refuses bad_length 0) (blocks_answer f (length f / 512)))
      by true e = blocks-near (length f / 512) (whole (length f) e).few
      by false e = (omega arith, omega arith)

  open_small : (a : Answer Sizes) → open_answer f ≡ a → Opened (start_in (stream_in f) a)
  open_small (gives z) e =
      let s = sound f z e in
      let k : inputs_in (stream_in f) ≡ z.inputs = ap (λ (z : Sizes). z.inputs) (sym s.sizes) in
      let p : 2 ^ outputs_in (stream_in f) ≤ 65536 = pow_mono {j = 16} s.shape.size.outputs in
      let c : outputs_at (stream_in f) z.inputs 0 < 2 ^ outputs_in (stream_in f) = subst (λ (x : ℕ). outputs_at (stream_in f) x 0 < 2 ^ outputs_in (stream_in f)) k (s.rows.clear 0 (omega (arith, s.shape.size.some))) in
      (refl, omega arith)
  open_small (refuses number place) e = subst Near e open_near

  opened : Opened (start_answer f)
  unfolding start_answer
  opened = open_small (open_answer f) refl

read_open : (a b : Answer Running) → Opened a → Opened b → open_code a ≡ open_code b → a ≡ b
read_open (gives r) (gives q) x y e = ap₂ (λ (s o : ℕ). gives (record { state = s; outputs = o })) (x.0 ∙ sym y.0) e
read_open (gives r) (refuses j q) x y e = absurd (omega (arith, x.1, y.0))
read_open (refuses i p) (gives r) x y e = absurd (omega (arith, y.1, x.0))
read_open (refuses i p) (refuses j q) x y e =
    let n : i ≡ j = omega (arith, x.1, y.1) in
    let z : p ≡ q = omega (arith, n) in
    ap₂ (λ (i j : ℕ). refuses i j) n z

-- two openings with one number have one answer
pub open_read : (f g : List ℕ) → open_code (start_answer f) ≡ open_code (start_answer g) → start_answer f ≡ start_answer g
open_read f g = read_open _ _ (opened f) (opened g)

-- ---- step and outputs: a refusal has no place

abbrev NoPlace : Answer Running → Type 0
NoPlace (gives r) = Unit
NoPlace (refuses number place) = place ≡ 0

-- what holds of the refusals of length and shape, and of what is asked, holds of the answer
either_first : (P : Answer Running → Type 0) (f : List ℕ) {a : Answer Running} → P (refuses bad_length 0) → P (refuses bad_content 0) → P a → P (shape_first f a)
either_first P f x y z = either P (length_good (length f)) x (either P (shape_good f) y z)

stand_none : (b : ℕ → ℕ) (k o state : ℕ) → NoPlace (stand_answer b k o state)
unfolding stand_answer
stand_none b k o state = either NoPlace (clear_at b k o state) refl tt

step-none : (f : List ℕ) (state input : ℕ) → NoPlace (step_answer f state input)
unfolding step_answer move_answer
step-none f state input = either_first NoPlace f refl refl (either NoPlace (both (ltb state _) (ltb input _)) refl (either NoPlace (ltb (next_at (stream_in f) _ state input) _) refl (stand_none (stream_in f) _ _ _)))

outputs-none : (f : List ℕ) (state : ℕ) → NoPlace (outputs_answer f state)
unfolding outputs_answer look_answer
outputs-none f state = either_first NoPlace f refl refl (either NoPlace (ltb state _) refl (stand_none (stream_in f) _ _ state))

-- .. and outputs are those of the state that was asked for
abbrev At : ℕ → Answer Running → Type 0
At state (gives r) = r.state ≡ state
At state (refuses number place) = Unit

outputs_at_lem : (f : List ℕ) (state : ℕ) → At state (outputs_answer f state)
unfolding outputs_answer look_answer stand_answer
outputs_at_lem f state = either_first (At state) f tt tt (either (At state) (ltb state _) tt (either (At state) (clear_at (stream_in f) _ _ state) tt refl))

same-refusal : (i j p q : ℕ) → p ≡ 0 → q ≡ 0 → 65536 + i ≡ 65536 + j → ◌≡◌ {A = Answer Running} (refuses i p) (refuses j q)
same-refusal i j p q x y e = let n : i ≡ j = omega arith in ap₂ (λ (i j : ℕ). refuses i j) n (x ∙ sym y)

-- one file: two steps with one number have one answer
module _ (f : List ℕ) where
  same-state : (r q : Running) → Stood f r → Stood f q → r.state ≡ q.state → gives r ≡ gives q
  same-state r q x y e = ap₂ (λ (s o : ℕ). gives (record { state = s; outputs = o })) e (x.outputs ∙ ap (outputs_at (stream_in f) (inputs_in (stream_in f))) e ∙ sym y.outputs)

  below : (r : Running) → Stood f r → r.state < 65536
  below r s = omega (arith, s.state, s.shape.size.states)

  pub step-read : (state input state₁ input₁ : ℕ) → step_code (step_answer f state input) ≡ step_code (step_answer f state₁ input₁) → step_answer f state input ≡ step_answer f state₁ input₁
  step-read state input state₁ input₁ = by (step_answer f state input) (step_answer f state₁ input₁) (λ r. step-stood f r state input) (λ r. step-stood f r state₁ input₁) (step-none f state input) (step-none f state₁ input₁)
    where
      by : (a b : Answer Running) → ((r : Running) → a ≡ gives r → Stood f r) → ((r : Running) → b ≡ gives r → Stood f r) → NoPlace a → NoPlace b → step_code a ≡ step_code b → a ≡ b
      by (gives r) (gives q) x y n m e = same-state r q (x r refl) (y q refl) e
      by (gives r) (refuses j q) x y n m e = absurd (omega (arith, below r (x r refl)))
      by (refuses i p) (gives q) x y n m e = absurd (omega (arith, below q (y q refl)))
      by (refuses i p) (refuses j q) x y n m e = same-refusal i j p q n m e

-- one state: the outputs of two files with one number have one answer
pub outputs-read : (f g : List ℕ) (state : ℕ) → outputs_code (outputs_answer f state) ≡ outputs_code (outputs_answer g state) → outputs_answer f state ≡ outputs_answer g state
outputs-read f g state = by (outputs_answer f state) (outputs_answer g state) (λ r e. outputs_fit f r (outputs-stood f r state e)) (λ r e. outputs_fit g r (outputs-stood g r state e)) (outputs-none f state) (outputs-none g state) (outputs_at_lem f state) (outputs_at_lem g state)
  where
    by : (a b : Answer Running) → ((r : Running) → a ≡ gives r → r.outputs < 65536) → ((r : Running) → b ≡ gives r → r.outputs < 65536) → NoPlace a → NoPlace b → At state a → At state b → outputs_code a ≡ outputs_code b → a ≡ b
    by (gives r) (gives q) x y n m s t e = ap₂ (λ (s o : ℕ). gives (record { state = s; outputs = o })) (s ∙ sym t) e
    by (gives r) (refuses j q) x y n m s t e = absurd (omega (arith, x r refl))
    by (refuses i p) (gives q) x y n m s t e = absurd (omega (arith, y q refl))
    by (refuses i p) (refuses j q) x y n m s t e = same-refusal i j p q n m e
