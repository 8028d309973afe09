-- What a part of a grammar is worth, read from the front of some words: the row that the next word calls for, its parts one after the other, and the words that are left.
-- Every step is a plain product, so that a reader's proof takes it apart by its places; f bounds how deep the parts stand in one another.
-- Assumes nothing.
use Rattle.std.specs.Prelude.{◌≡◌, List, [], ◌∷◌, map, ℕ, zero, suc, ◌<◌, length}
use Rattle.std.proofs.Math.Option.{some}
use Rattle.ll1.specs.Grammar.{word, part, In, Out, Row, Grammar, row_at}
use Rattle.ll1.specs.Values.{Values, Makes, make}
use Rattle.ll1.specs.Goes.{look}
use Rattle.ll1.proofs.Tests.{Claims, pick}

module _ {K P : Type 0} (W : Type 0) (Val : P → Type 0) (kind : W → K) where
  -- what a part gives: with k levels left the words ws come to v, and other words are left
  abbrev pub Giving : Type 1
  Giving = (n : P) → ℕ → List W → Val n → List W → Type 0

  -- the same of a row
  abbrev pub RowGives : Giving → (a : Row K P) → ℕ → List W → Values W Val a → List W → Type 0
  RowGives R [] k ws vs rest = ws ≡ rest
  RowGives R (word t ∷ r) k ws vs rest = (tail : List W) × (ws ≡ vs.0 ∷ tail) × (kind vs.0 ≡ t) × RowGives R r k tail vs.1 rest
  RowGives R (part n ∷ r) k ws vs rest = (mid : List W) × R n k ws vs.0 mid × RowGives R r k mid vs.1 rest
  RowGives R (In ∷ r) k ws vs rest = (m : ℕ) × (k ≡ suc m) × RowGives R r m ws vs rest
  RowGives R (Out ∷ r) k ws vs rest = RowGives R r (suc k) ws vs rest

  module _ (C : Claims K P) (G : Grammar K P) (makes : (n : P) → Makes W Val (Val n) (G n)) where
    -- row i of the part n, which the next word calls for
    abbrev pub ByRow : Giving → (n : P) → ℕ → List W → Val n → List W → Type 0
    ByRow R n k ws v rest =
        (i : ℕ) × (h : i < length (G n)) × (pick C n (look (map kind ws)) 0 (G n) ≡ some i)
        × (vs : Values W Val (row_at G n i)) × (v ≡ make W Val (Val n) (G n) i h (makes n) vs) × RowGives R (row_at G n i) k ws vs rest

    -- .. the parts in it no deeper than f
    unfoldable pub Gives : ℕ → Giving
    Gives zero n k ws v rest = ⊥
    Gives (suc f) n k ws v rest = ByRow (Gives f) n k ws v rest
