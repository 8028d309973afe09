-- What every row of a grammar keeps, every part has.
-- Assumes nothing.
use mathlib.Core.Path.{◌≡◌, subst, subst⁻¹}
use mathlib.Core.List.{List, [], ◌∷◌}
use Prim.Native.Nat.{ℕ, zero, suc, ◌<◌}
use native.Mathlib.Nat.{le_of_suc-le-suc}
use native.Mathlib.Omega.{arith}
use lib.ListN.{length, get_or}
use Rattle.ll1.specs.Grammar.{word, part, In, Out, Row, Grammar, row_at}
use Rattle.ll1.specs.Values.{Values, Makes, make}
use Rattle.ll1.proofs.Tests.{Claims}
use Rattle.descent_law.specs.Gives.{RowGives, Gives}
use Rattle.kept_law.specs.Kept.{Every}

module _ {K P : Type 0} (W : Type 0) (Val : P → Type 0) (kind : W → K) (Fits : W → Type 0) (Q : (n : P) → Val n → Type 0) where
  -- the values of a row have what they should
  abbrev pub RowHas : (a : Row K P) → Values W Val a → Type 0
  RowHas [] vs = Unit {0}
  RowHas (word t ∷ r) vs = (Fits vs.0 × (kind vs.0 ≡ t)) × RowHas r vs.1
  RowHas (part n ∷ r) vs = Q n vs.0 × RowHas r vs.1
  RowHas (In ∷ r) vs = RowHas r vs
  RowHas (Out ∷ r) vs = RowHas r vs

  -- .. and so has what each row makes of them
  abbrev pub Keeps : (A : Type 0) → (A → Type 0) → (rows : List (Row K P)) → Makes W Val A rows → Type 0
  Keeps A q [] m = Unit {0}
  Keeps A q (r ∷ rows) m = ((vs : Values W Val r) → RowHas r vs → q (m.0 vs)) × Keeps A q rows m.1

  made : (A : Type 0) (q : A → Type 0) (rows : List (Row K P)) (m : Makes W Val A rows) → Keeps A q rows m → (i : ℕ) (h : i < length rows) (vs : Values W Val (get_or rows i [])) → RowHas (get_or rows i []) vs → q (make W Val A rows i h m vs)
  unfolding make
  made A q [] m s i h vs x = absurd (omega arith)
  made A q (r ∷ rows) m s zero h vs x = s.0 vs x
  made A q (r ∷ rows) m s (suc i) h vs x = made A q rows m.1 s.1 i (le_of_suc-le-suc h) vs x

  module _ (C : Claims K P) (G : Grammar K P) (makes : (n : P) → Makes W Val (Val n) (G n)) (keeps : (n : P) → Keeps (Val n) (Q n) (G n) (makes n)) where
    abbrev Given : ℕ → (n : P) → ℕ → List W → Val n → List W → Type 0
    Given f n k ws v rest = Gives W Val kind C G makes f n k ws v rest

    row_has : (f : ℕ) → ((n : P) (k : ℕ) (ws : List W) (v : Val n) (rest : List W) → Every Fits ws → Given f n k ws v rest → Q n v × Every Fits rest)
        → (a : Row K P) (k : ℕ) (ws : List W) (vs : Values W Val a) (rest : List W) → Every Fits ws → RowGives W Val kind (Given f) a k ws vs rest → RowHas a vs × Every Fits rest
    row_has f g [] k ws vs rest e x = (tt, subst (Every Fits) x e)
    row_has f g (word t ∷ r) k ws vs rest e (tail, q, z, x) =
        let y = subst (Every Fits) q e in
        let (a, b) = row_has f g r k tail vs.1 rest y.1 x in
        (((y.0, z), a), b)
    row_has f g (part n ∷ r) k ws vs rest e (mid, y, x) =
        let (c, d) = g n k ws vs.0 mid e y in
        let (a, b) = row_has f g r k mid vs.1 rest d x in
        ((c, a), b)
    row_has f g (In ∷ r) k ws vs rest e (m, q, x) = row_has f g r m ws vs rest e x
    row_has f g (Out ∷ r) k ws vs rest e x = row_has f g r (suc k) ws vs rest e x

    pub everywhere : (f : ℕ) (n : P) (k : ℕ) (ws : List W) (v : Val n) (rest : List W) → Every Fits ws → Given f n k ws v rest → Q n v × Every Fits rest
    unfolding Gives
    everywhere zero n k ws v rest e x = absurd x
    everywhere (suc f) n k ws v rest e (i, h, p, vs, q, x) =
        let (a, b) = row_has f (everywhere f) (row_at G n i) k ws vs rest e x in
        (subst⁻¹ (Q n) q (made (Val n) (Q n) (G n) (makes n) (keeps n) i h vs a), b)
