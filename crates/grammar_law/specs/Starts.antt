-- Where the row begins that a word calls for: the calls of the tables laid out, a row of columns to a part.
-- Assumes nothing.
use Rattle.std.specs.Prelude.{Bool, true, false, ◌||◌, List, [], ◌∷◌, ◌++◌, ℕ, zero, suc, eqb}
use Rattle.ll1.specs.Rows.{columns}
use Rattle.grammar_law.specs.Tables.{calls}

-- kind t is one of these
unfoldable pub among : ℕ → List ℕ → Bool
among t [] = false
among t (k ∷ ks) = eqb t k || among t ks

-- where the row begins that kind t calls for; 0 where none does
unfoldable pub called : ℕ → List (ℕ × List ℕ) → ℕ
called t [] = 0
called t ((at, ks) ∷ rs) = elim (among t ks) [ true ↦ at | false ↦ called t rs ]

-- the n columns from t on
unfoldable pub across : ℕ → ℕ → List (ℕ × List ℕ) → List ℕ
across zero t rs = []
across (suc n) t rs = called t rs ∷ across n (suc t) rs

unfoldable pub laid : List (List (ℕ × List ℕ)) → List ℕ
laid [] = []
laid (rs ∷ ps) = across columns 0 rs ++ laid ps

unfoldable pub starts : List ℕ
starts = laid calls
