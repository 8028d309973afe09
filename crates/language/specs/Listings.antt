-- What a text comes to in a room, and what the listing program prints of it.
-- Assumes nothing.
use Rattle.std.specs.Prelude.{◌≡◌, List, ℕ, ◌≤◌, length}
use Rattle.reach_law.specs.Count.{TooMany}
use Rattle.reach_law.specs.Numbering.{Numbering}
use Rattle.file_law.specs.Answer.{Answer, gives, refuses}
use Rattle.file_law.specs.Table.{most_states, Table}
use Rattle.meaning.specs.States.{State}
use Rattle.meaning.specs.Declared.{Source}
use Rattle.meaning.specs.Checked.{program_of}
use Rattle.language.specs.Texts.{good, refused, Reads}
use Rattle.language.specs.Tables.{machine_of, Tabled}
use Rattle.language.specs.Printed.{listing_of, refusal_line}

-- a text comes to its source with the table of its reachable states, or to a refusal
pub data Yields (room : ℕ) (s : List ℕ) : Answer (Source × Table) → Type 0 where
  -- 3 to 10, a fault of the text
  fault : {number place : ℕ} → Reads s (refused number place) → Yields room s (refuses number place)
  -- 11 (S6)
  many : {src : Source} → Reads s (good src) → TooMany (machine_of (program_of src)) room → Yields room s (refuses 11 0)
  -- S6
  table : {src : Source} {states : List State} {t : Table} → Reads s (good src) → Numbering (machine_of (program_of src)) states → length states ≤ room → Tabled (program_of src) states t → Yields room s (gives (src, t))

-- L1, L2
abbrev pub printed : Answer (Source × Table) → List ℕ
printed (gives x) = listing_of x.0 x.1
printed (refuses number place) = refusal_line number place

-- what is printed for a text in a room
pub record PrintsIn (room : ℕ) (s out : List ℕ) : Type 0 where
  pub answer : Answer (Source × Table)
  pub yields : Yields room s answer
  pub is : out ≡ printed answer

-- L2: the listing program has room 256
abbrev pub Prints : List ℕ → List ℕ → Type 0
Prints = PrintsIn most_states
