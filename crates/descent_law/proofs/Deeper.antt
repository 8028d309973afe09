-- With more levels left the same words come to the same.
-- Assumes nothing.
use mathlib.Core.Path.{◌≡◌, refl, ap, subst}
use mathlib.Core.List.{List, [], ◌∷◌}
use Prim.Native.Nat.{ℕ, zero, suc, ◌+◌, ◌-◌, ◌≤◌}
use native.Mathlib.Omega.{arith}
use Rattle.ll1.specs.Grammar.{word, part, In, Out, Row, Grammar, row_at}
use Rattle.ll1.specs.Values.{Values, Makes}
use Rattle.ll1.proofs.Tests.{Claims}
use Rattle.language.specs.Words.{Word}
use Rattle.language.specs.Grammar.{Part, csml}
use Rattle.language.specs.Trees.{Val, makes}
use Rattle.language.proofs.Claims.{claims}
use Rattle.descent_law.specs.Gives.{Giving, RowGives, Gives}
use Rattle.descent_law.specs.Told.{kind_of, Told}

module _ {K P : Type 0} (W : Type 0) (Val : P → Type 0) (kind : W → K) where
  row-deeper : (R : Giving W Val kind) → ((n : P) (k : ℕ) (ws : List W) (v : Val n) (rest : List W) → R n k ws v rest → R n (suc k) ws v rest)
      → (a : Row K P) (k : ℕ) (ws : List W) (vs : Values W Val a) (rest : List W) → RowGives W Val kind R a k ws vs rest → RowGives W Val kind R a (suc k) ws vs rest
  row-deeper R f [] k ws vs rest x = x
  row-deeper R f (word t ∷ r) k ws vs rest (tail, e, q, x) = (tail, e, q, row-deeper R f r k tail vs.1 rest x)
  row-deeper R f (part n ∷ r) k ws vs rest (mid, y, x) = (mid, f n k ws vs.0 mid y, row-deeper R f r k mid vs.1 rest x)
  row-deeper R f (In ∷ r) k ws vs rest (m, q, x) = (suc m, ap suc q, row-deeper R f r m ws vs rest x)
  row-deeper R f (Out ∷ r) k ws vs rest x = row-deeper R f r (suc k) ws vs rest x

  one_deeper : (C : Claims K P) (G : Grammar K P) (makes : (n : P) → Makes W Val (Val n) (G n)) (f : ℕ) (n : P) (k : ℕ) (ws : List W) (v : Val n) (rest : List W)
      → Gives W Val kind C G makes f n k ws v rest → Gives W Val kind C G makes f n (suc k) ws v rest
  unfolding Gives
  one_deeper C G makes zero n k ws v rest x = absurd x
  one_deeper C G makes (suc f) n k ws v rest (i, h, p, vs, e, x) = (i, h, p, vs, e, row-deeper (Gives W Val kind C G makes f) (one_deeper C G makes f) (row_at G n i) k ws vs rest x)

pub deeper : (f : ℕ) (n : Part) (k j : ℕ) (ws : List Word) (v : Val n) (rest : List Word) → k ≤ j → Told f n k ws v rest → Told f n j ws v rest
deeper f n k j ws v rest h x = go (j - k) j (omega arith)
  where
    at : (i l : ℕ) → i ≡ l → Told f n i ws v rest → Told f n l ws v rest
    at i l e y = subst (λ (m : ℕ). Told f n m ws v rest) e y

    go : (e l : ℕ) → l ≡ e + k → Told f n l ws v rest
    go zero l q = at k l (omega arith) x
    go (suc e) l q = at (suc (e + k)) l (omega arith) (one_deeper Word Val kind_of claims csml makes f n (e + k) ws v rest (go e (e + k) refl))
