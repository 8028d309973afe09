-- Where the activities of a statement stand, and what the code is handed of it.
-- Assumes nothing.
use Rattle.std.specs.Prelude.{◌≡◌, ℕ, ◌+◌, ◌≤◌, Bool, true, false, List, length}
use Rattle.nodes.specs.Ready.{Leaves}
use Rattle.nodes.specs.declared.Shape.{Shape}
use Rattle.nodes.specs.declared.Shape.TheVariants.{Plain, Waiting, Either, Repeat, Tests, Together}
use Rattle.runs.specs.declared.Buffer.{Buffer}
use Rattle.runs.specs.declared.Entry.{Entry}
use Rattle.runs.specs.Run.{window, least}
use Rattle.runs.specs.Buffer.{Open}

-- a statement that stands at its head starts, but for a delay
abbrev pub head_shape : Shape → Shape
head_shape Plain = Plain
head_shape (Waiting n) = Waiting n
head_shape (Either m) = Plain
head_shape Repeat = Plain
head_shape Tests = Plain
head_shape Together = Plain

abbrev pub resumed_as : Bool → Shape → Shape
resumed_as true s = head_shape s
resumed_as false s = s

-- n activities have w of the old entries from b on; from b on no new entry is there yet; m is the least number from i on
-- where one of them stands
pub record Stand (t : List ℕ) (old : List Entry) (o : Buffer) (b w i m n : ℕ) : Type 0 where
  pub leaves : Leaves t
  pub room : b + w ≤ 8
  pub wide : n ≤ w
  pub kept : length old ≡ 8
  pub free : Open o b
  pub is_least : m ≡ least (window old b w) i
