-- Parts and runs of a text.
-- Assumes nothing.
use Rattle.std.specs.Prelude.{◌≡◌, Bool, List, ℕ, ◌+◌, ◌<◌, min, length, get_or, drop}
use Rattle.language.specs.Scan.{span}
unfoldable pub use Rattle.spellings.specs.Part.{part}

-- the end of the run that starts at a place
abbrev pub run_end : (ℕ → ℕ → Bool) → List ℕ → ℕ → ℕ
run_end goesOn s from = from + span goesOn (drop from s)

-- what a test answers of each place of a text is what g says of the byte there and the one behind it
pub record Tests (g : ℕ → ℕ → Bool) (s : List ℕ) (answers : ℕ → Bool → Type 0) : Type 0 where
  pub told : (i : ℕ) (r : Bool) → i < length s → answers i r → r ≡ g (get_or s i 0) (get_or s (i + 1) 0)

-- "a number's value is at most 65,535": a larger one counts as 65,536
abbrev pub cap : ℕ → ℕ
cap v = min v 65536
