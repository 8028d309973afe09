-- A sound file steps as the table that it holds: one step, and every sequence of inputs.
-- Assumes nothing.
use mathlib.Core.Path.{◌≡◌, refl, sym, ap, ◌∙◌, subst}
use mathlib.Core.Logic.{◌⊎◌, inl, inr}
use Prim.Native.Nat.{ℕ, zero, suc, ◌^◌, ◌≤◌, ◌<◌}
use native.Mathlib.Omega.{arith}
use native.Mathlib.Decide.{dec_lt}
use mathlib.Core.List.{List, [], ◌∷◌, map}
use lib.ListN.{length, get_or}
use lib.Dec.{ltb}
use borrow.Author.Tests.{lt-ltb, le-ltb}
use Rattle.file_law.specs.Answer.{Answer, gives, refuses, not_in_table, unless}
use Rattle.file_law.specs.Table.{Table, Fits, Running, next_of, standing, clocks, table_run}
use Rattle.file_law.specs.Reading.{stream_in, inputs_in, outputs_in, states_in, outputs_at, next_at, Sizes, open_answer, table_in}
use Rattle.file_law.specs.Stepping.{stands_in, stand_answer, move_answer, step_answer, look_answer, outputs_answer, start_in, start_answer, after, steps_from, run_answers}
use Rattle.file_law.proofs.Tests.{shape_good_lem, shape_long}
use Rattle.file_law.proofs.Held.{outputs_in_lem, next_in_lem}
use Rattle.file_law.proofs.Sound.{Sound, sound, sound-fits}

-- ---- the answers of a table

-- to any inputs: one that the table has not is refused with 14, and the state stays
unfoldable pub answers_of : Table → ℕ → List ℕ → List (Answer Running)
answers_of t state [] = []
answers_of t state (input ∷ inputs) =
    unless (ltb input (2 ^ t.inputs)) (refuses not_in_table 0 ∷ answers_of t state inputs)
    (gives (standing t (next_of t state input)) ∷ answers_of t (next_of t state input) inputs)

pub good-answers : (t : Table) (state : ℕ) (inputs : List ℕ) → ((j : ℕ) → get_or inputs j 0 < 2 ^ t.inputs) → answers_of t state inputs ≡ map gives (clocks t state inputs)
unfolding answers_of clocks
good-answers t state [] h = refl
good-answers t state (input ∷ inputs) h =
    rw (lt-ltb input (2 ^ t.inputs) (h 0)) (ap (λ (l : List (Answer Running)). gives (standing t (next_of t state input)) ∷ l) (good-answers t (next_of t state input) inputs (λ j. h (suc j))))

-- 14, or a state of the table with its outputs
abbrev pub FromTable : Table → Answer Running → Type 0
FromTable t a = (a ≡ refuses not_in_table 0) ⊎ ((state : ℕ) × (state < length t.rows) × (a ≡ gives (standing t state)))

pub from_table : (t : Table) → Fits t → (state : ℕ) (inputs : List ℕ) → state < length t.rows → (j : ℕ) → FromTable t (get_or (answers_of t state inputs) j (refuses not_in_table 0))
unfolding answers_of
from_table t fits state [] h j = inl refl
from_table t fits state (input ∷ inputs) h j = at (dec_lt input (2 ^ t.inputs)) j (λ x. from_table t fits x inputs)
  where
    at : Dec (input < 2 ^ t.inputs) → (j : ℕ) → ((x : ℕ) → x < length t.rows → (j : ℕ) → FromTable t (get_or (answers_of t x inputs) j (refuses not_in_table 0)))
        → FromTable t (get_or (answers_of t state (input ∷ inputs)) j (refuses not_in_table 0))
    at (yes i) zero ih = rw (lt-ltb input (2 ^ t.inputs) i) (inr (next_of t state input, (fits.each state h).inside input i, refl))
    at (yes i) (suc j) ih = rw (lt-ltb input (2 ^ t.inputs) i) (ih (next_of t state input) ((fits.each state h).inside input i) j)
    at (no i) zero ih = rw (le-ltb input (2 ^ t.inputs) (omega arith)) (inl refl)
    at (no i) (suc j) ih = rw (le-ltb input (2 ^ t.inputs) (omega arith)) (ih state h j)

-- ---- one step of a run, and what a refusal leaves

one-step : (f : List ℕ) (c : Running) (input : ℕ) (inputs : List ℕ) {a : Answer Running} → step_answer f c.state input ≡ a
    → steps_from f c (input ∷ inputs) ≡ a ∷ steps_from f (after a c) inputs
unfolding steps_from
one-step f c input inputs e = ap (λ (x : Answer Running). x ∷ steps_from f (after x c) inputs) e

pub refused_stays : (f : List ℕ) (c : Running) (input : ℕ) (inputs : List ℕ) {number at : ℕ} → step_answer f c.state input ≡ refuses number at
    → steps_from f c (input ∷ inputs) ≡ refuses number at ∷ steps_from f c inputs
refused_stays f c input inputs e = one-step f c input inputs e

-- ---- a sound file

module _ (f : List ℕ) (z : Sizes) (accepted : open_answer f ≡ gives z) where
  abbrev b : ℕ → ℕ
  b = stream_in f

  abbrev t : Table
  t = table_in b

  abbrev s : Sound f z
  s = sound f z accepted

  in_states : {state : ℕ} → state < z.states → state < states_in b
  in_states {state} h = subst (λ (x : Sizes). state < x.states) s.sizes h

  in_inputs : {input : ℕ} → input < 2 ^ z.inputs → input < 2 ^ inputs_in b
  in_inputs {input} h = subst (λ (x : Sizes). input < 2 ^ x.inputs) s.sizes h

  stands : (state : ℕ) → state < states_in b → stands_in b (inputs_in b) state ≡ standing t state
  stands state h = ap (λ (x : ℕ). let r : Running = record { state = state; outputs = x } in r) (sym (outputs_in_lem b state h))

  pub sound-start : start_answer f ≡ gives (standing (table_in (stream_in f)) 0)
  unfolding start_answer
  sound-start =
      ap (start_in b) (accepted ∙ ap gives s.sizes) ∙ ap gives (stands 0 s.shape.size.some)

  pub sound-outputs : (state : ℕ) → state < z.states → outputs_answer f state ≡ gives (standing (table_in (stream_in f)) state)
  unfolding outputs_answer look_answer stand_answer
  sound-outputs state h =
      let g = in_states h in
      simp (shape_long s.shape, shape_good_lem s.shape, lt-ltb state (states_in b) g, lt-ltb (outputs_at b (inputs_in b) state) (2 ^ outputs_in b) (s.rows.clear state g)) (ap gives (stands state g))

  pub sound-step : (state input : ℕ) → state < z.states → input < 2 ^ z.inputs → step_answer f state input ≡ gives (standing (table_in (stream_in f)) (next_of (table_in (stream_in f)) state input))
  unfolding step_answer move_answer stand_answer
  sound-step state input h i =
      let g = in_states h in
      let j = in_inputs i in
      let x = next_at b (inputs_in b) state input in
      let l = s.rows.inside state input g j in
      simp (
        shape_long s.shape,
        shape_good_lem s.shape,
        lt-ltb state (states_in b) g,
        lt-ltb input (2 ^ inputs_in b) j,
        lt-ltb x (states_in b) l,
        lt-ltb (outputs_at b (inputs_in b) x) (2 ^ outputs_in b) (s.rows.clear x l),
      ) (ap gives (stands x l ∙ ap (standing t) (sym (next_in_lem b state input g j))))

  -- an input that the table has not
  pub sound-refuses : (state input : ℕ) → state < z.states → 2 ^ z.inputs ≤ input → step_answer f state input ≡ refuses not_in_table 0
  unfolding step_answer move_answer
  sound-refuses state input h i =
      let j = subst (λ (x : Sizes). 2 ^ x.inputs ≤ input) s.sizes i in
      simp (shape_long s.shape, shape_good_lem s.shape, lt-ltb state (states_in b) (in_states h), le-ltb input (2 ^ inputs_in b) j)

  next-below : (state input : ℕ) → state < z.states → input < 2 ^ z.inputs → next_of t state input < z.states
  next-below state input h i =
      let g = in_states h in
      let j = in_inputs i in
      rw (next_in_lem b state input g j, ap (λ (x : Sizes). x.states) s.sizes) (s.rows.inside state input g j)

  steps : (c : Running) (inputs : List ℕ) → c.state < z.states → steps_from f c inputs ≡ answers_of t c.state inputs
  unfolding steps_from answers_of table_in
  steps c [] h = refl
  steps c (input ∷ inputs) h = at (dec_lt input (2 ^ z.inputs)) (λ x. steps x inputs)
    where
      at : Dec (input < 2 ^ z.inputs) → ((x : Running) → x.state < z.states → steps_from f x inputs ≡ answers_of t x.state inputs)
          → steps_from f c (input ∷ inputs) ≡ answers_of t c.state (input ∷ inputs)
      at (yes i) ih =
          let r = standing t (next_of t c.state input) in
          rw (lt-ltb input (2 ^ inputs_in b) (in_inputs i)) (one-step f c input inputs (sound-step c.state input h i) ∙ ap (λ (l : List (Answer Running)). gives r ∷ l) (ih r (next-below c.state input h i)))
      at (no i) ih =
          let g : 2 ^ z.inputs ≤ input = omega arith in
          let j = subst (λ (x : Sizes). 2 ^ x.inputs ≤ input) s.sizes g in
          rw (le-ltb input (2 ^ inputs_in b) j) (one-step f c input inputs (sound-refuses c.state input h g) ∙ ap (λ (l : List (Answer Running)). refuses not_in_table 0 ∷ l) (ih c h))

  -- any inputs: the answers are the table's, from its start
  pub any_sequence : (c : Running) (inputs : List ℕ) → run_answers f c inputs ≡ gives (standing (table_in (stream_in f)) 0) ∷ answers_of (table_in (stream_in f)) 0 inputs
  unfolding run_answers
  any_sequence c inputs =
      ap (λ (a : Answer Running). a ∷ steps_from f (after a c) inputs) sound-start
      ∙ ap (λ (l : List (Answer Running)). gives (standing t 0) ∷ l) (steps (standing t 0) inputs (rw (ap (λ (x : Sizes). x.states) s.sizes) s.shape.size.some))

  -- inputs below 2 ^ k: never a refusal
  pub every_sequence : (c : Running) (inputs : List ℕ) → ((j : ℕ) → get_or inputs j 0 < 2 ^ z.inputs) → run_answers f c inputs ≡ map gives (table_run (table_in (stream_in f)) inputs)
  unfolding table_run table_in
  every_sequence c inputs h =
      any_sequence c inputs ∙ ap (λ (l : List (Answer Running)). gives (standing t 0) ∷ l) (good-answers t 0 inputs (λ j. in_inputs (h j)))

  -- any inputs: an answer is a state of the table with its outputs, or 14
  pub never_unsound : (c : Running) (inputs : List ℕ) (j : ℕ) → FromTable (table_in (stream_in f)) (get_or (run_answers f c inputs) j (refuses not_in_table 0))
  never_unsound c inputs zero = rw (any_sequence c inputs) (inr (0, (sound-fits f z accepted).some, refl))
  never_unsound c inputs (suc j) = rw (any_sequence c inputs) (from_table t (sound-fits f z accepted) 0 inputs (sound-fits f z accepted).some j)
