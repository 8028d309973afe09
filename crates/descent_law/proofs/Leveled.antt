-- What words come to goes no deeper than the levels that were left for them.
-- Assumes nothing.
use mathlib.Core.Path.{sym, subst}
use mathlib.Core.List.{List, [], ◌∷◌}
use Prim.Native.Nat.{ℕ, zero, suc, ◌≤◌}
use Rattle.ll1.specs.Grammar.{word, part, In, Out, Row, Grammar, row_at}
use Rattle.ll1.specs.Values.{Values, Makes}
use Rattle.ll1.proofs.Tests.{Claims}
use Rattle.ll1.proofs.Leveled.{Kept, Hands, hands_make}
use Rattle.meaning.specs.Unexpanded.{Term}
use Rattle.meaning.specs.Levels.{levels_in}
use Rattle.language.specs.Words.{Word}
use Rattle.language.specs.Grammar.{Part, Expression, csml}
use Rattle.language.specs.Trees.{Val, makes}
use Rattle.language.proofs.Claims.{claims}
use Rattle.language.proofs.Leveled.{Shallow, hands}
use Rattle.descent_law.specs.Gives.{Giving, RowGives, Gives}
use Rattle.descent_law.specs.Told.{kind_of, Told}

-- what each row hands on, all that is given has
module _ {K P : Type 0} (W : Type 0) (Val : P → Type 0) (kind : W → K) (Q : ℕ → (n : P) → Val n → Type 0) where
  row_kept : (R : Giving W Val kind) → ((n : P) (k : ℕ) (ws : List W) (v : Val n) (rest : List W) → R n k ws v rest → Q k n v)
      → (a : Row K P) (k : ℕ) (ws : List W) (vs : Values W Val a) (rest : List W) → RowGives W Val kind R a k ws vs rest → Kept W Val Q k a vs
  row_kept R f [] k ws vs rest x = tt
  row_kept R f (word t ∷ r) k ws vs rest (tail, e, q, x) = row_kept R f r k tail vs.1 rest x
  row_kept R f (part n ∷ r) k ws vs rest (mid, y, x) = (f n k ws vs.0 mid y, row_kept R f r k mid vs.1 rest x)
  row_kept R f (In ∷ r) k ws vs rest (m, q, x) = (m, q, row_kept R f r m ws vs rest x)
  row_kept R f (Out ∷ r) k ws vs rest x = row_kept R f r (suc k) ws vs rest x

  gives-kept : (C : Claims K P) (G : Grammar K P) (makes : (n : P) → Makes W Val (Val n) (G n)) → ((n : P) → Hands W Val Q (Val n) (λ k v. Q k n v) (G n) (makes n))
      → (f : ℕ) (n : P) (k : ℕ) (ws : List W) (v : Val n) (rest : List W) → Gives W Val kind C G makes f n k ws v rest → Q k n v
  unfolding Gives
  gives-kept C G makes hs zero n k ws v rest x = absurd x
  gives-kept C G makes hs (suc f) n k ws v rest (i, h, p, vs, e, x) =
      subst (λ (y : Val n). Q k n y) (sym e) (hands_make W Val Q (Val n) (λ k v. Q k n v) (G n) (makes n) (hs n) i h k vs (row_kept (Gives W Val kind C G makes f) (gives-kept C G makes hs f) (row_at G n i) k ws vs rest x))

-- G9
pub told_shallow : (f : ℕ) (n : Part) (k : ℕ) (ws : List Word) (v : Val n) (rest : List Word) → Told f n k ws v rest → Shallow k n v
told_shallow f n k ws v rest x = gives-kept Word Val kind_of Shallow claims csml makes hands f n k ws v rest x

pub told-levels : (f k : ℕ) (ws : List Word) (e : Term) (rest : List Word) → Told f Expression k ws e rest → levels_in e ≤ k
told-levels f k ws e rest x = told_shallow f Expression k ws e rest x
