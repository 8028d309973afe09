-- A next number is put in.
-- Assumes nothing.
use Rattle.std.specs.Prelude.{◌≡◌, List, ◌⊎◌, ℕ, ◌<◌}
use Rattle.rows.specs.Area.{nexts_at, next_in, Changed}

-- next number v is put in for state i and input x, and those of earlier states and inputs stay
pub record NextPut (l : List ℕ) (i x v : ℕ) (k : List ℕ) : Type 0 where
  pub to : ℕ
  pub low : Changed nexts_at to l k
  pub here : next_in k i x ≡ v
  pub others : (j y : ℕ) → y < 64 → (j < i) ⊎ ((j ≡ i) × (y < x)) → next_in k j y ≡ next_in l j y
