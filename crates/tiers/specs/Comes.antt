-- What a reader of expressions promises of any words that stand there: where the words behind stand, and a claim of the term that they come to.
-- Assumes nothing.
use Rattle.std.specs.Prelude.{List, ℕ, ◌≤◌}
use Rattle.meaning.specs.Unexpanded.{Term}
use Rattle.language.specs.Words.{Word}
use Rattle.language.specs.Grammar.{Tier}
use Rattle.descent_law.specs.Told.{Told, OperandRow}
use Rattle.hand.specs.declared.Here.{Here}
use Rattle.hand.specs.Along.{Stands, Near}

-- the words behind stand at the word w, and the claim holds of the term
pub record Tells (s : List ℕ) (w : Here) (P : Term → Type 0) (v : Term) (rest : List Word) : Type 0 where
  pub word : Stands s w rest
  pub holds : P v

-- .. for all words that stand at h, whatever they come to as an expression of this strength
pub record Comes (s : List ℕ) (tier levels : ℕ) (h w : Here) (P : Term → Type 0) : Type 0 where
  pub near : Near s w
  pub later : h.place ≤ w.place
  pub told : (ws : List Word) → Stands s h ws → (f : ℕ) (v : Term) (rest : List Word) → Told f (Tier tier) levels ws v rest → Tells s w P v rest

-- .. or as an operand of this row, which has no level
pub record ComesBare (s : List ℕ) (row : ℕ) (h w : Here) (P : Term → Type 0) : Type 0 where
  pub near : Near s w
  pub later : h.place ≤ w.place
  pub told : (ws : List Word) → Stands s h ws → (f k : ℕ) (v : Term) (rest : List Word) → OperandRow f k ws v rest row → Tells s w P v rest
