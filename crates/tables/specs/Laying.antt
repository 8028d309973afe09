-- The table of starts as code lays it out: one cell after the other.
-- Assumes nothing.
use Rattle.std.specs.Prelude.{◌≡◌, List, [], ◌∷◌, ℕ, ◌<◌, length, get_or, set}
use Rattle.grammar_law.specs.Tables.{cell_count, call_count}

-- places put into their cells
unfoldable pub stored : List ℕ → List ℕ → List ℕ → List ℕ
stored [] places t = t
stored (c ∷ called) [] t = t
stored (c ∷ called) (p ∷ places) t = stored called places (set t c p)

-- there are so many cells and calls, and each call is of a cell
pub record Called (t called places : List ℕ) : Type 0 where
  pub cells : length t ≡ cell_count
  pub calls : length called ≡ call_count
  pub rows : length places ≡ call_count
  pub inside : (i : ℕ) → i < call_count → get_or called i 0 < cell_count

-- all of them put in
pub record Filled (called places t r : List ℕ) : Type 0 where
  pub is : r ≡ stored called places t
