-- The lent area: the tree in its first bytes, names, frames and procedures behind it.
-- Assumes nothing.
use Rattle.std.specs.Prelude.{◌≡◌, List, ℕ, ◌≤◌, ◌<◌, length, get_or, take, drop}
use Rattle.meaning.specs.Unexpanded.{Procedure}
use Rattle.decls.specs.declared.Read.{Read}
use Rattle.decls.specs.Came.{Came}
use Rattle.decls_law.specs.Rows.{Placed, Filled, Fills}
use Rattle.parts.specs.Beside.{tree_bytes, beside}

-- the tree
unfoldable pub tree_of : List ℕ → List ℕ
tree_of t = take tree_bytes t

-- the declared names and procedures of a text lie behind so many bytes, which stay as they were
pub record Listed (at : ℕ) (s t u : List ℕ) (r : Read) : Type 0 where
  pub came : Came s (drop at t) (drop at u) r
  pub front : take at u ≡ take at t
  pub long : length u ≡ length t

-- .. behind the tree, where all was zero before, with the activities of procedures filled in
pub record Prepared (s t u : List ℕ) (r : Read) : Type 0 where
  pub before : List ℕ
  pub listed : List ℕ
  pub room : 16384 ≤ length before
  pub clear : (j : ℕ) → j < 16384 → get_or before j 0 ≡ 0
  pub came : Came s before listed r
  pub fills : Fills listed (beside u).names r.procedures
  pub filled : (ps : List Procedure) → Placed s listed r.procedures ps → Filled (beside u).names r.procedures ps
  pub zeros : (q : ℕ) → q < 8192 → get_or u q 0 ≡ 0
  pub long : length u ≡ length t
