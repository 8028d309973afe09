-- What the reading of rows stands on.
-- Assumes nothing.
use Rattle.std.specs.Prelude.{List, ℕ, ◌*◌, ◌≤◌, length}
use Rattle.file_law.specs.Table.{most_inputs, most_states}
use Rattle.file_law.specs.Reading.{blocks_for}

-- k inputs and n states within the sizes, and at least the blocks that they call for
pub record Room (f : List ℕ) (k n : ℕ) : Type 0 where
  pub inputs : k ≤ most_inputs
  pub states : n ≤ most_states
  pub blocks : 512 * blocks_for k n ≤ length f
