-- Where a walk through a text stands: what may follow, as forms.
-- Assumes nothing.
use Rattle.std.specs.Prelude.{◌≡◌, List, Result, Ok, Err, ℕ, ◌+◌, ◌-◌, ◌^◌, ◌≤◌, length, take}
use Rattle.kiss_law.specs.Text.{heading}
use Rattle.kiss_law.specs.Kiss.{Written, Stops}
use Rattle.kiss_law.specs.Fields.{Form, Leads, FormStops}
use Rattle.kiss_law.specs.Forms.{rest_form, states_form, kiss_form, TextSizes, SizedSo}
use Rattle.kiss_fields.specs.declared.Taken.{Taken}
use Rattle.kiss_walk.specs.declared.Walked.{Walked}

-- the first `at` bytes lead to g
pub record Stands (x : List ℕ) (g : Form) (at : ℕ) : Type 0 where
  pub inside : at ≤ length x
  pub leads : Leads kiss_form (take at x) g

-- before the rows of a state
abbrev pub rows_form : ℕ → ℕ → ℕ → ℕ → Form
rows_form k o n state = states_form k o n (n - state) state

-- among the rows of a state that shows w, before an input
abbrev pub in_form : ℕ → ℕ → ℕ → ℕ → ℕ → ℕ → Form
in_form k o n state w input = rest_form k o n state w (2 ^ k - input) input (rows_form k o n (state + 1))

-- a step that leads to g, by the value it found, or ends where the text leaves the form
abbrev pub Went : List ℕ → (ℕ → Form) → Result Taken ℕ → Type 0
Went x g (Ok taken) = Stands x (g taken.value) taken.end
Went x g (Err place) = FormStops kiss_form x place

-- .. and one that found no value
abbrev pub Came : List ℕ → Form → Result ℕ ℕ → Type 0
Came x g (Ok end) = Stands x g end
Came x g (Err place) = FormStops kiss_form x place

-- the sizes that a text begins with, up to its rows
pub record Headed (x : List ℕ) (w : Walked) : Type 0 where
  pub sizes : TextSizes w.sizes.inputs w.sizes.outputs w.sizes.states
  pub stands : Stands x (rows_form w.sizes.inputs w.sizes.outputs w.sizes.states 0) w.at
  pub is : take w.at x ≡ heading w.sizes.inputs w.sizes.outputs w.sizes.states

abbrev pub HeadedSo : List ℕ → Result Walked ℕ → Type 0
HeadedSo x (Ok walked) = Headed x walked
HeadedSo x (Err place) = FormStops kiss_form x place

-- a text of a table with these sizes
pub record GoodText (x : List ℕ) (w : Walked) : Type 0 where
  pub sizes : TextSizes w.sizes.inputs w.sizes.outputs w.sizes.states
  pub text : Written x
  pub sized : SizedSo text.table w.sizes.inputs w.sizes.outputs w.sizes.states
  pub is : take w.at x ≡ heading w.sizes.inputs w.sizes.outputs w.sizes.states
  pub inside : w.at ≤ length x

-- .. or the place where the text leaves the written ones
abbrev pub Checked : List ℕ → Result Walked ℕ → Type 0
Checked x (Ok walked) = GoodText x walked
Checked x (Err place) = Stops x place
