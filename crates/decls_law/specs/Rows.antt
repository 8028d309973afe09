-- What the declarations leave in the rows of procedures, what is still to be filled in, and marks that are alike.
-- Assumes nothing.
use Rattle.std.specs.Prelude.{◌≡◌, List, [], ◌∷◌, ℕ, zero, suc, ◌+◌, ◌*◌, ◌<◌, length, get_or}
use Rattle.meaning.specs.Unexpanded.{Procedure}
use Rattle.meaning.specs.Expansion.{wide_all, wides}
use Rattle.names.specs.declared.Marks.{Marks}
use Rattle.frames.specs.Layout.{procedure_at, wide_at}
use Rattle.frames.specs.Open.{ProcedureAt}

-- P6: `Rows` but for the activities: the first n procedures, the last of them first, each at the place in its row
unfoldable pub Placed : List ℕ → List ℕ → ℕ → List Procedure → Type 0
Placed s z zero ps = ps ≡ []
Placed s z (suc n) ps = (p : Procedure) × (qs : List Procedure) × (ps ≡ p ∷ qs) × ProcedureAt s (procedure_at z n) p × Placed s z n qs

-- P14: the activities of each in its row
unfoldable pub Filled : List ℕ → ℕ → List Procedure → Type 0
Filled z zero ps = Unit
Filled z (suc n) [] = Unit
Filled z (suc n) (p ∷ qs) = (wide_at z n ≡ wide_all (wides qs) p.body) × Filled z n qs

-- z is u with other activities in its n rows
pub record Fills (u z : List ℕ) (n : ℕ) : Type 0 where
  pub long : length z ≡ length u
  pub places : (i : ℕ) → i < n → procedure_at z i ≡ procedure_at u i
  pub others : (j : ℕ) → j + n * 4 < 16384 → get_or z j 0 ≡ get_or u j 0

-- all marks but the place of fault 6
pub record Alike (m n : Marks) : Type 0 where
  pub nine : m.nine ≡ n.nine
  pub names : m.names ≡ n.names
  pub inputs : m.inputs ≡ n.inputs
  pub outputs : m.outputs ≡ n.outputs
  pub low : m.low ≡ n.low
  pub bits : m.bits ≡ n.bits
  pub word : m.word ≡ n.word
