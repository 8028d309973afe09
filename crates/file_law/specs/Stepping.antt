-- What a step answers, the running controller, and the numbers that C gets.
-- Assumes nothing.
use Rattle.std.specs.Prelude.{◌≡◌, ℕ, ◌+◌, ◌*◌, ◌^◌, ◌≤◌, Bool, List, [], ◌∷◌, ltb, eqb, length}
use Rattle.file_law.specs.Answer.{Answer, gives, refuses, bad_length, bad_content, not_in_table, unless, both}
use Rattle.file_law.specs.Table.{Running}
use Rattle.file_law.specs.Reading.{length_good, stream_in, inputs_in, outputs_in, states_in, blocks_for, sizes_good, Within, Sizes, sizes_in, outputs_at, next_at, clear_at, open_answer}

-- F7: sizes, and the length that they call for
unfoldable pub shape_good : List ℕ → Bool
shape_good f =
    both (sizes_good (inputs_in (stream_in f)) (outputs_in (stream_in f)) (states_in (stream_in f)))
    (eqb (length f) (512 * blocks_for (inputs_in (stream_in f)) (states_in (stream_in f))))

-- the same as facts, by name
pub record Shape (f : List ℕ) : Type 0 where
  pub long : 512 ≤ length f
  pub size : Within (inputs_in (stream_in f)) (outputs_in (stream_in f)) (states_in (stream_in f))
  pub exact : length f ≡ 512 * blocks_for (inputs_in (stream_in f)) (states_in (stream_in f))

-- F7: a file of the sizes k, o and n has the length that they make
pub record Sized (f : List ℕ) (k o n : ℕ) : Type 0 where
  pub size : Within k o n
  pub exact : length f ≡ 512 * blocks_for k n

-- F7: the length, then the shape, and then what is asked of the file
abbrev pub shape_first : {A : Type 0} → List ℕ → Answer A → Answer A
shape_first f next = unless (length_good (length f)) (refuses bad_length 0) (unless (shape_good f) (refuses bad_content 0) next)

unfoldable pub shape_answer : List ℕ → Answer Sizes
shape_answer f = shape_first f (gives (sizes_in (stream_in f)))

-- the record that stands in a state of a stream of k inputs
abbrev pub stands_in : (ℕ → ℕ) → ℕ → ℕ → Running
stands_in b k state = record { state = state; outputs = outputs_at b k state }

-- F7: a state with its outputs, unless an undeclared bit is set
unfoldable pub stand_answer : (ℕ → ℕ) → ℕ → ℕ → ℕ → Answer Running
stand_answer b k o state = unless (clear_at b k o state) (refuses bad_content 0) (gives (stands_in b k state))

-- F7: the state and the input, then the next state
unfoldable pub move_answer : (ℕ → ℕ) → ℕ → ℕ → ℕ → ℕ → ℕ → Answer Running
move_answer b k o n state input =
    unless (both (ltb state n) (ltb input (2 ^ k))) (refuses not_in_table 0)
    (unless (ltb (next_at b k state input) n) (refuses bad_content 0)
    (stand_answer b k o (next_at b k state input)))

-- F7: a step; no check is computed
unfoldable pub step_answer : List ℕ → ℕ → ℕ → Answer Running
step_answer f state input =
    shape_first f
    (move_answer (stream_in f) (inputs_in (stream_in f)) (outputs_in (stream_in f)) (states_in (stream_in f)) state input)

-- F8: the outputs of a state, refused as a step is, without the input
unfoldable pub look_answer : (ℕ → ℕ) → ℕ → ℕ → ℕ → ℕ → Answer Running
look_answer b k o n state = unless (ltb state n) (refuses not_in_table 0) (stand_answer b k o state)

unfoldable pub outputs_answer : List ℕ → ℕ → Answer Running
outputs_answer f state =
    shape_first f
    (look_answer (stream_in f) (inputs_in (stream_in f)) (outputs_in (stream_in f)) (states_in (stream_in f)) state)

-- F6: opening stands at state 0 with its outputs
abbrev pub start_in : (ℕ → ℕ) → Answer Sizes → Answer Running
start_in b (gives z) = gives (stands_in b z.inputs 0)
start_in b (refuses number at) = refuses number at

unfoldable pub start_answer : List ℕ → Answer Running
start_answer f = start_in (stream_in f) (open_answer f)

-- F7: a refusal leaves the record
abbrev pub after : Answer Running → Running → Running
after (gives r) c = r
after (refuses number at) c = c

-- ---- a run: opening, and then a step for each input, each from the record as it stands

unfoldable pub steps_from : List ℕ → Running → List ℕ → List (Answer Running)
steps_from f c [] = []
steps_from f c (input ∷ inputs) =
    step_answer f c.state input ∷ steps_from f (after (step_answer f c.state input) c) inputs

unfoldable pub run_answers : List ℕ → Running → List ℕ → List (Answer Running)
run_answers f c inputs = start_answer f ∷ steps_from f (after (start_answer f) c) inputs

-- ---- what C gets

-- F9: what a step gives to C
abbrev pub step_code : Answer Running → ℕ
step_code (gives r) = r.state
step_code (refuses number at) = 65536 + number

-- F9: what asking for outputs gives to C
abbrev pub outputs_code : Answer Running → ℕ
outputs_code (gives r) = r.outputs
outputs_code (refuses number at) = 65536 + number

-- F9: what opening gives to C
abbrev pub open_code : Answer Running → ℕ
open_code (gives r) = r.outputs
open_code (refuses number at) = number * 2 ^ 32 + at
