-- T-05: what a step and a look tell of a broken file: 21 first, on any length, and 24 for all else, each exactly when the facts say so.
-- Assumes nothing.
use mathlib.Core.Path.{◌≡◌, refl, sym, ap, ◌∙◌, subst}
use mathlib.Core.Logic.{◌↔◌, ◌⊎◌, inl, inr}
use mathlib.Core.List.{List}
use Prim.Native.Nat.{ℕ, ◌^◌, ◌≤◌, ◌<◌}
use native.Mathlib.Omega.{arith}
use native.Mathlib.Decide.{dec_lt}
use lib.ListN.{length}
use lib.Dec.{ltb}
use borrow.Author.Tests.{ltb-true, ltb-false}
use Rattle.file_law.specs.Answer.{Answer, gives, refuses, bad_length, bad_content, not_in_table, both}
use Rattle.file_law.specs.Table.{Running}
use Rattle.file_law.specs.Reading.{length_good, stream_in, inputs_in, outputs_in, states_in, outputs_at, next_at, clear_at}
use Rattle.file_law.specs.Stepping.{shape_good, Shape, shape_first, stand_answer, move_answer, step_answer, look_answer, outputs_answer}
use Rattle.file_law.proofs.Every.{both_left, both_right, true-false}
use Rattle.file_law.proofs.Tests.{Whole, whole, length-good, shape, shape_good_lem, shape_long}
use Rattle.file_law.proofs.Steps.{shape_asked, stand_spare, look_on, move_beyond, move_on}
use Rattle.file_law.proofs.Broken.{fails_by, either, BadLength, bad_length_lem, length_fails}

module _ (f : List ℕ) where
  abbrev b : ℕ → ℕ
  b = stream_in f

  abbrev k : ℕ
  k = inputs_in b

  abbrev o : ℕ
  o = outputs_in b

  abbrev n : ℕ
  n = states_in b

  -- a state whose outputs have a bit that is not declared
  abbrev pub Spare : ℕ → Type 0
  Spare state = 2 ^ outputs_in (stream_in f) ≤ outputs_at (stream_in f) (inputs_in (stream_in f)) state

  -- ---- what is told: 21 for the length, 24 for the shape, and then what X says, or 14

  abbrev Tells : Type 0 → Answer Running → Type 0
  Tells X (gives r) = Unit
  Tells X (refuses number place) =
      (place ≡ 0) × (((number ≡ bad_length) × BadLength (length f))
      ⊎ (((number ≡ bad_content) × Whole (length f) × ((¬ Shape f) ⊎ (Shape f × X)))
      ⊎ (number ≡ not_in_table)))

  module _ (X : Type 0) where
    first_tells : (a : Answer Running) → (Shape f → Tells X a) → Tells X (shape_first f a)
    first_tells a h =
        either (Tells X) (length_good (length f)) (λ e. (refl, inl (refl, bad_length_lem (length f) e)))
        (λ l. either (Tells X) (shape_good f) (λ e. (refl, inr (inl (refl, whole (length f) l, inl (λ s. true-false (shape_good_lem s) e))))) (λ e. h (shape f e)))

    of_21 : (place : ℕ) → Tells X (refuses bad_length place) → BadLength (length f) × (place ≡ 0)
    of_21 place (z, inl x) = (x.1, z)
    of_21 place (z, inr (inl x)) = absurd (omega (arith, x.0))
    of_21 place (z, inr (inr x)) = absurd (omega (arith, x))

    of_24 : (place : ℕ) → Tells X (refuses bad_content place) → Whole (length f) × ((¬ Shape f) ⊎ (Shape f × X)) × (place ≡ 0)
    of_24 place (z, inl x) = absurd (omega (arith, x.0))
    of_24 place (z, inr (inl x)) = (x.1, x.2, z)
    of_24 place (z, inr (inr x)) = absurd (omega (arith, x))

    of_any : (number place : ℕ) → Tells X (refuses number place) → (number ≡ bad_length) ⊎ ((number ≡ bad_content) ⊎ (number ≡ not_in_table))
    of_any number place (z, inl x) = inl x.0
    of_any number place (z, inr (inl x)) = inr (inl x.0)
    of_any number place (z, inr (inr x)) = inr (inr x)

  back_21 : {A : Type 0} (a : Answer A) (place : ℕ) → BadLength (length f) → place ≡ 0 → shape_first f a ≡ refuses bad_length place
  back_21 a place h z = simp (length_fails (length f) h) (ap (refuses bad_length) (sym z))

  no_shape : {A : Type 0} (a : Answer A) (place : ℕ) → Whole (length f) → ¬ Shape f → place ≡ 0 → shape_first f a ≡ refuses bad_content place
  no_shape a place w s z = simp (length-good w, fails_by (shape_good f) (λ e. s (shape f e))) (ap (refuses bad_content) (sym z))

  -- ---- a step

  module _ (state input : ℕ) where
    abbrev next : ℕ
    next = next_at b k state input

    -- the state and the input are in the table, and the next state is not, or has a spare bit
    pub record BadMove : Type 0 where
      pub state_in : state < states_in (stream_in f)
      pub input_in : input < 2 ^ inputs_in (stream_in f)
      pub broken : (states_in (stream_in f) ≤ next_at (stream_in f) (inputs_in (stream_in f)) state input) ⊎ Spare (next_at (stream_in f) (inputs_in (stream_in f)) state input)

    move_tells : Shape f → Tells BadMove (move_answer b k o n state input)
    unfolding move_answer stand_answer
    move_tells s =
        let w : Whole (length f) = whole (length f) (shape_long s) in
        either (Tells BadMove) (both (ltb state n) (ltb input (2 ^ k))) (λ e. (refl, inr (inr refl)))
        (λ t. let h = ltb-true _ _ (both_left (ltb state n) (ltb input (2 ^ k)) t) in
        let g = ltb-true _ _ (both_right (ltb state n) (ltb input (2 ^ k)) t) in
        either (Tells BadMove) (ltb next n) (λ e. (refl, inr (inl (refl, w, inr (s, record { state_in = h; input_in = g; broken = inl (ltb-false _ _ e) })))))
        (λ u. either (Tells BadMove) (clear_at b k o next) (λ e. (refl, inr (inl (refl, w, inr (s, record { state_in = h; input_in = g; broken = inr (ltb-false _ _ e) }))))) (λ e. tt)))

    step_tells : Tells BadMove (step_answer f state input)
    unfolding step_answer
    step_tells = first_tells BadMove (move_answer b k o n state input) move_tells

    -- a step gives 21 exactly on a bad length, whatever the state and the input
    pub step-gives_21 : (place : ℕ) → (step_answer f state input ≡ refuses bad_length place) ↔ (BadLength (length f) × (place ≡ 0))
    unfolding step_answer
    step-gives_21 place = ((λ e. of_21 BadMove place (subst (Tells BadMove) e step_tells)), (λ h. back_21 (move_answer b k o n state input) place h.0 h.1))

    -- .. and 24 exactly where the length is good, and the shape is not, or the move is bad
    pub step-gives_24 : (place : ℕ) → (step_answer f state input ≡ refuses bad_content place) ↔ (Whole (length f) × ((¬ Shape f) ⊎ (Shape f × BadMove)) × (place ≡ 0))
    unfolding step_answer
    step-gives_24 place = ((λ e. of_24 BadMove place (subst (Tells BadMove) e step_tells)), (λ h. back h.0 h.1 h.2))
      where
        move : BadMove → move_answer b k o n state input ≡ refuses bad_content 0
        move m = by m.broken (dec_lt next n)
          where
            by : (n ≤ next) ⊎ Spare next → Dec (next < n) → move_answer b k o n state input ≡ refuses bad_content 0
            by (inl e) d = move_beyond b k o state n input m.state_in m.input_in e
            by (inr e) (yes d) = move_on b k o state n input m.state_in m.input_in d ∙ stand_spare b k o next e
            by (inr e) (no d) = move_beyond b k o state n input m.state_in m.input_in (omega arith)

        back : Whole (length f) → (¬ Shape f) ⊎ (Shape f × BadMove) → place ≡ 0 → step_answer f state input ≡ refuses bad_content place
        back w (inl s) z = no_shape (move_answer b k o n state input) place w s z
        back w (inr (s, m)) z = shape_asked (move_answer b k o n state input) s ∙ move m ∙ ap (refuses bad_content) (sym z)

    -- a step gives no other refusal than 21, 24 and 14
    pub step-numbers : {number place : ℕ} → step_answer f state input ≡ refuses number place → (number ≡ bad_length) ⊎ ((number ≡ bad_content) ⊎ (number ≡ not_in_table))
    step-numbers e = of_any BadMove _ _ (subst (Tells BadMove) e step_tells)

  -- ---- the outputs of a state

  module _ (state : ℕ) where
    abbrev pub BadLook : Type 0
    BadLook = (state < states_in (stream_in f)) × Spare state

    look_tells : Shape f → Tells BadLook (look_answer b k o n state)
    unfolding look_answer stand_answer
    look_tells s =
        either (Tells BadLook) (ltb state n) (λ e. (refl, inr (inr refl)))
        (λ t. either (Tells BadLook) (clear_at b k o state) (λ e. (refl, inr (inl (refl, whole (length f) (shape_long s), inr (s, (ltb-true _ _ t, ltb-false _ _ e)))))) (λ e. tt))

    outputs_tell : Tells BadLook (outputs_answer f state)
    unfolding outputs_answer
    outputs_tell = first_tells BadLook (look_answer b k o n state) look_tells

    pub outputs_give_21 : (place : ℕ) → (outputs_answer f state ≡ refuses bad_length place) ↔ (BadLength (length f) × (place ≡ 0))
    unfolding outputs_answer
    outputs_give_21 place = ((λ e. of_21 BadLook place (subst (Tells BadLook) e outputs_tell)), (λ h. back_21 (look_answer b k o n state) place h.0 h.1))

    pub outputs_give_24 : (place : ℕ) → (outputs_answer f state ≡ refuses bad_content place) ↔ (Whole (length f) × ((¬ Shape f) ⊎ (Shape f × BadLook)) × (place ≡ 0))
    unfolding outputs_answer
    outputs_give_24 place = ((λ e. of_24 BadLook place (subst (Tells BadLook) e outputs_tell)), (λ h. back h.0 h.1 h.2))
      where
        back : Whole (length f) → (¬ Shape f) ⊎ (Shape f × BadLook) → place ≡ 0 → outputs_answer f state ≡ refuses bad_content place
        back w (inl s) z = no_shape (look_answer b k o n state) place w s z
        back w (inr (s, (h, e))) z = shape_asked (look_answer b k o n state) s ∙ look_on b k o state n h ∙ stand_spare b k o state e ∙ ap (refuses bad_content) (sym z)

    pub outputs-numbers : {number place : ℕ} → outputs_answer f state ≡ refuses number place → (number ≡ bad_length) ⊎ ((number ≡ bad_content) ⊎ (number ≡ not_in_table))
    outputs-numbers e = of_any BadLook _ _ (subst (Tells BadLook) e outputs_tell)
