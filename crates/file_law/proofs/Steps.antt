-- From the answer about a file's shape to a step's answer: what the stepper's code goes by.
-- Assumes nothing.
use mathlib.Core.Path.{◌≡◌, sym, ap, ap₂, ◌∙◌}
use Prim.Native.Nat.{ℕ, ◌^◌, ◌≤◌, ◌<◌}
use native.Mathlib.Omega.{arith}
use mathlib.Core.Bool.{Bool, true, false}
use mathlib.Core.List.{List}
use lib.ListN.{length}
use lib.Dec.{ltb}
use borrow.Author.Tests.{lt-ltb, le-ltb}
use Rattle.file_law.specs.Answer.{Answer, gives, refuses, bad_length, bad_content, not_in_table, unless, both}
use Rattle.file_law.specs.Table.{Running}
use Rattle.file_law.specs.Reading.{length_good, stream_in, inputs_in, outputs_in, states_in, sizes_in, outputs_at, next_at, clear_at}
use Rattle.file_law.specs.Stepping.{shape_good, Shape, Sized, shape_first, shape_answer, stands_in, stand_answer, move_answer, step_answer, look_answer, outputs_answer}
use Rattle.file_law.proofs.Answers.{never, passed}
use Rattle.file_law.proofs.Tests.{shape_good_lem, shape_long}
use Rattle.file_law.proofs.Content.{shaped}

pub sized : (f : List ℕ) {k o n : ℕ} → gives (record { inputs = k; outputs = o; states = n }) ≡ shape_answer f → Sized f k o n
sized f e = let s = shaped f e in record { size = s.size; exact = s.exact }

-- what passes the tests of length and shape comes to what is asked
pub asked : {A : Type 0} (f : List ℕ) (x : Answer A) → length_good (length f) ≡ true → shape_good f ≡ true → shape_first f x ≡ x
asked f x l g = simp (l, g)

pub shape_asked : {A : Type 0} {f : List ℕ} (x : Answer A) → Shape f → shape_first f x ≡ x
shape_asked {f = f} x s = asked f x (shape_long s) (shape_good_lem s)

-- .. and what gives a value has passed them
pub shape_passed : {A : Type 0} (f : List ℕ) (x : Answer A) {a : A} → shape_first f x ≡ gives a → (shape_good f ≡ true) × (x ≡ gives a)
shape_passed f x e = passed (shape_good f) bad_content 0 x (passed (length_good (length f)) bad_length 0 (unless (shape_good f) (refuses bad_content 0) x) e).1

-- at the sizes that the shape gave
through : (f : List ℕ) (k o n : ℕ) (g : ℕ → ℕ → ℕ → Answer Running) → gives (record { inputs = k; outputs = o; states = n }) ≡ shape_answer f
    → shape_first f (g (inputs_in (stream_in f)) (outputs_in (stream_in f)) (states_in (stream_in f))) ≡ g k o n
through f k o n g e =
    let b = stream_in f in
    let s = shaped f e in
    asked f (g (inputs_in b) (outputs_in b) (states_in b)) s.long s.good
    ∙ sym (ap (λ (x : ℕ). g x o n) s.stated.inputs ∙ ap (λ (x : ℕ). g (inputs_in b) x n) s.stated.outputs ∙ ap (λ (x : ℕ). g (inputs_in b) (outputs_in b) x) s.stated.states)

-- a refusal is the same whatever was asked
carried : {A B : Type 0} (number at other place : ℕ) → ◌≡◌ {A = Answer A} (refuses number at) (refuses other place) → ◌≡◌ {A = Answer B} (refuses other place) (refuses number at)
carried number at other place e =
    let n : number ≡ other = cc in
    let p : at ≡ place = cc in
    ap₂ (λ (a b : ℕ). refuses a b) (sym n) (sym p)

-- .. so a test that has failed leaves its refusal
refused : (f : List ℕ) (number at : ℕ) (x : Answer Running) → refuses number at ≡ shape_answer f → shape_first f x ≡ refuses number at
unfolding shape_answer
refused f number at x = by_test (length_good (length f)) (shape_good f)
  where
    by_test : (l g : Bool) → refuses number at ≡ unless l (refuses bad_length 0) (unless g (refuses bad_content 0) (gives (sizes_in (stream_in f))))
        → unless l (refuses bad_length 0) (unless g (refuses bad_content 0) x) ≡ refuses number at
    by_test true true e = absurd (never (sym e))
    by_test true false e = carried number at bad_content 0 e
    by_test false g e = carried number at bad_length 0 e

module _ (f : List ℕ) (state input : ℕ) where
  pub step_given : (k o n : ℕ) → gives (record { inputs = k; outputs = o; states = n }) ≡ shape_answer f → step_answer f state input ≡ move_answer (stream_in f) k o n state input
  unfolding step_answer
  step_given k o n = through f k o n (λ x y z. move_answer (stream_in f) x y z state input)

  pub step-refused : (number at : ℕ) → refuses number at ≡ shape_answer f → step_answer f state input ≡ refuses number at
  unfolding step_answer
  step-refused number at = refused f number at _

  pub look_given : (k o n : ℕ) → gives (record { inputs = k; outputs = o; states = n }) ≡ shape_answer f → outputs_answer f state ≡ look_answer (stream_in f) k o n state
  unfolding outputs_answer
  look_given k o n = through f k o n (λ x y z. look_answer (stream_in f) x y z state)

  pub look-refused : (number at : ℕ) → refuses number at ≡ shape_answer f → outputs_answer f state ≡ refuses number at
  unfolding outputs_answer
  look-refused number at = refused f number at _

-- ---- a refusal's number is small, so 65,536 and it make a number of 32 bits

record Small (a : Answer Running) : Type 0 where
  bound : (number at : ℕ) → refuses number at ≡ a → number ≤ bad_content

small_given : (r : Running) → Small (gives r)
small_given r = record { bound = λ number at e. absurd (never (sym e)) }

small-refused : (x y : ℕ) → x ≤ bad_content → Small (refuses x y)
small-refused x y h = record { bound = λ number at e. let n : number ≡ x = cc in omega arith }

small-unless : (t : Bool) {a b : Answer Running} → Small a → Small b → Small (unless t a b)
small-unless true p q = q
small-unless false p q = p

content_small : Small (refuses bad_content 0)
content_small = small-refused bad_content 0 (omega arith)

shape_small : (f : List ℕ) {a : Answer Running} → Small a → Small (shape_first f a)
shape_small f s = small-unless (length_good (length f)) (small-refused bad_length 0 (omega arith)) (small-unless (shape_good f) content_small s)

absent-small : Small (refuses not_in_table 0)
absent-small = small-refused not_in_table 0 (omega arith)

module _ (b : ℕ → ℕ) (k o n : ℕ) where
  stand_small : (state : ℕ) → Small (stand_answer b k o state)
  unfolding stand_answer
  stand_small state = small-unless (clear_at b k o state) content_small (small_given _)

  move_small : (state input : ℕ) → Small (move_answer b k o n state input)
  unfolding move_answer
  move_small state input =
      small-unless (both (ltb state n) (ltb input (2 ^ k))) absent-small
      (small-unless (ltb (next_at b k state input) n) content_small (stand_small (next_at b k state input)))

  look-small : (state : ℕ) → Small (look_answer b k o n state)
  unfolding look_answer
  look-small state = small-unless (ltb state n) absent-small (stand_small state)

pub step_small : (f : List ℕ) (state input number at : ℕ) → refuses number at ≡ step_answer f state input → number ≤ bad_content
unfolding step_answer
step_small f state input = (shape_small f (move_small (stream_in f) _ _ _ state input)).bound

pub outputs-small : (f : List ℕ) (state number at : ℕ) → refuses number at ≡ outputs_answer f state → number ≤ bad_content
unfolding outputs_answer
outputs-small f state = (shape_small f (look-small (stream_in f) _ _ _ state)).bound

-- ---- one law for each outcome

module _ (b : ℕ → ℕ) (k o state : ℕ) where
  pub stand_spare : 2 ^ o ≤ outputs_at b k state → stand_answer b k o state ≡ refuses bad_content 0
  unfolding stand_answer
  stand_spare h = simp (le-ltb _ _ h)

  pub stand_clear : outputs_at b k state < 2 ^ o → stand_answer b k o state ≡ gives (stands_in b k state)
  unfolding stand_answer
  stand_clear h = simp (lt-ltb _ _ h)

  module _ (n : ℕ) where
    pub look-beyond : n ≤ state → look_answer b k o n state ≡ refuses not_in_table 0
    unfolding look_answer
    look-beyond h = simp (le-ltb _ _ h)

    pub look_on : state < n → look_answer b k o n state ≡ stand_answer b k o state
    unfolding look_answer
    look_on h = simp (lt-ltb _ _ h)

    module _ (input : ℕ) where
      pub move_no_state : n ≤ state → move_answer b k o n state input ≡ refuses not_in_table 0
      unfolding move_answer
      move_no_state h = simp (le-ltb _ _ h)

      pub move_no_input : state < n → 2 ^ k ≤ input → move_answer b k o n state input ≡ refuses not_in_table 0
      unfolding move_answer
      move_no_input h g = simp (lt-ltb _ _ h, le-ltb _ _ g)

      pub move_beyond : state < n → input < 2 ^ k → n ≤ next_at b k state input → move_answer b k o n state input ≡ refuses bad_content 0
      unfolding move_answer
      move_beyond h g e = simp (lt-ltb _ _ h, lt-ltb _ _ g, le-ltb _ _ e)

      pub move_on : state < n → input < 2 ^ k → next_at b k state input < n → move_answer b k o n state input ≡ stand_answer b k o (next_at b k state input)
      unfolding move_answer
      move_on h g e = simp (lt-ltb _ _ h, lt-ltb _ _ g, lt-ltb _ _ e)
