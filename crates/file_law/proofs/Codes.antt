-- What a step that was given says, and that the numbers which C gets tell a value from a refusal.
-- Assumes nothing.
use mathlib.Core.Path.{◌≡◌, refl, sym, ap, ◌∙◌, subst}
use Prim.Native.Nat.{ℕ, ◌^◌, ◌≤◌, ◌<◌}
use native.Mathlib.Omega.{arith}
use mathlib.Core.Bool.{true}
use mathlib.Core.List.{List}
use lib.Dec.{ltb}
use lib.Pow.{pow_mono}
use borrow.Author.Tests.{ltb-true}
use Rattle.file_law.specs.Answer.{Answer, gives, bad_content, not_in_table, both}
use Rattle.file_law.specs.Table.{Running}
use Rattle.file_law.specs.Reading.{stream_in, inputs_in, outputs_in, states_in, outputs_at, next_at, clear_at}
use Rattle.file_law.specs.Stepping.{shape_good, Shape, stands_in, stand_answer, move_answer, step_answer, look_answer, outputs_answer, step_code}
use Rattle.file_law.proofs.Answers.{same, passed}
use Rattle.file_law.proofs.Tests.{shape}
use Rattle.file_law.proofs.Steps.{shape_asked, shape_passed, stand_clear, look_on}

-- a record that stands in a state of the table, its outputs clear of spare bits
pub record Stood (f : List ℕ) (r : Running) : Type 0 where
  pub shape : Shape f
  pub state : r.state < states_in (stream_in f)
  pub clear : outputs_at (stream_in f) (inputs_in (stream_in f)) r.state < 2 ^ outputs_in (stream_in f)
  pub outputs : r.outputs ≡ outputs_at (stream_in f) (inputs_in (stream_in f)) r.state

module _ (f : List ℕ) (r : Running) where
  stood : (state : ℕ) → shape_good f ≡ true → state < states_in (stream_in f) → stand_answer (stream_in f) (inputs_in (stream_in f)) (outputs_in (stream_in f)) state ≡ gives r → Stood f r
  unfolding stand_answer
  stood state good h e =
      let b = stream_in f in
      let p = passed (clear_at b (inputs_in b) (outputs_in b) state) bad_content 0 (gives (stands_in b (inputs_in b) state)) e in
      subst (λ (x : Running). Stood f x) (same p.1) (record { shape = shape f good; state = h; clear = ltb-true _ _ p.0; outputs = refl })

  -- whatever the file, a step that is given stands in the table
  pub step-stood : (state input : ℕ) → step_answer f state input ≡ gives r → Stood f r
  unfolding step_answer move_answer
  step-stood state input e =
      let b = stream_in f in
      let p = shape_passed f _ e in
      let q = passed (both (ltb state (states_in b)) (ltb input (2 ^ inputs_in b))) not_in_table 0 _ p.1 in
      let n = passed (ltb (next_at b (inputs_in b) state input) (states_in b)) bad_content 0 _ q.1 in
      stood (next_at b (inputs_in b) state input) p.0 (ltb-true _ _ n.0) n.1

  pub outputs-stood : (state : ℕ) → outputs_answer f state ≡ gives r → Stood f r
  unfolding outputs_answer look_answer
  outputs-stood state e =
      let p = shape_passed f _ e in
      let q = passed (ltb state (states_in (stream_in f))) not_in_table 0 _ p.1 in
      stood state p.0 (ltb-true _ _ q.0) q.1

  -- the outputs of a state just stepped into are never refused
  pub outputs-after-step : (state input : ℕ) → step_answer f state input ≡ gives r → outputs_answer f r.state ≡ gives r
  unfolding outputs_answer
  outputs-after-step state input e =
      let b = stream_in f in
      let s = step-stood state input e in
      shape_asked (look_answer b (inputs_in b) (outputs_in b) (states_in b) r.state) s.shape
      ∙ look_on b (inputs_in b) (outputs_in b) r.state (states_in b) s.state
      ∙ stand_clear b (inputs_in b) (outputs_in b) r.state s.clear
      ∙ ap (λ (x : ℕ). gives (record { state = r.state; outputs = x })) (sym s.outputs)

  state-small : Stood f r → r.state < 65536
  state-small s = omega (arith, s.state, s.shape.size.states)

  pub outputs_fit : Stood f r → r.outputs < 65536
  outputs_fit s =
      let p : 2 ^ outputs_in (stream_in f) ≤ 65536 = pow_mono {j = 16} s.shape.size.outputs in
      omega (arith, s.clear, s.outputs)

  -- a next state is below 65,536, where every refusal is above 65,535
  pub next_fits : (state input : ℕ) → step_answer f state input ≡ gives r → step_code (step_answer f state input) < 65536
  next_fits state input e = subst (λ (a : Answer Running). step_code a < 65536) (sym e) (state-small (step-stood state input e))
