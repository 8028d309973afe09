-- What a derivation is worth: each rule makes its part's value from the values of its row. So a tree is read off, with no case for a row that does not occur.
-- Assumes nothing.
use Rattle.std.specs.Prelude.{◌≡◌, ℕ, zero, suc, ◌<◌, length, get_or}
use mathlib.Core.List.{List, [], ◌∷◌, ◌++◌, cons≢nil}
use Rattle.std.proofs.Common.{le_of_suc-le-suc, arith}
use Rattle.ll1.specs.Grammar.{word, part, In, Out, Row, Grammar, row_at, Reads, stop, reads, rule, into, out}

-- W is what a word is worth, Val what each part is
module _ {K P : Type 0} (W : Type 0) (Val : P → Type 0) where
  -- the values of a row; a level has none
  abbrev pub Values : Row K P → Type 0
  Values [] = Unit
  Values (word t ∷ r) = W × Values r
  Values (part n ∷ r) = Val n × Values r
  Values (In ∷ r) = Values r
  Values (Out ∷ r) = Values r

  -- for each row of a part, how the part's value is made from it
  abbrev pub Makes : Type 0 → List (Row K P) → Type 0
  Makes A [] = Unit
  Makes A (r ∷ rows) = (Values r → A) × Makes A rows

  unfoldable pub make : (A : Type 0) (rows : List (Row K P)) (i : ℕ) → i < length rows → Makes A rows → Values (get_or rows i []) → A
  make A [] i h m = absurd (omega arith)
  make A (r ∷ rows) zero h m = m.0
  make A (r ∷ rows) (suc i) h m = make A rows i (le_of_suc-le-suc h) m.1

  -- the values of a row that is put before another
  unfoldable pub front : (p r : Row K P) → Values (p ++ r) → Values p
  front [] r v = tt
  front (word t ∷ p) r v = (v.0, front p r v.1)
  front (part n ∷ p) r v = (v.0, front p r v.1)
  front (In ∷ p) r v = front p r v
  front (Out ∷ p) r v = front p r v

  unfoldable pub back : (p r : Row K P) → Values (p ++ r) → Values r
  back [] r v = v
  back (word t ∷ p) r v = back p r v.1
  back (part n ∷ p) r v = back p r v.1
  back (In ∷ p) r v = back p r v
  back (Out ∷ p) r v = back p r v

  unfoldable pub nothing : (a : Row K P) → a ≡ [] → Values a
  nothing [] e = tt
  nothing (x ∷ r) e = absurd (cons≢nil e)

  module _ (G : Grammar K P) (makes : (n : P) → Makes (Val n) (G n)) (words : ℕ → W) where
    -- the values of a row that is read whole, its first word being number m
    unfoldable pub values_of : (j : ℕ) {k : ℕ} {a : Row K P} {w : List K} {d : List ℕ} → Reads G j [] k a w d → ℕ → Values a
    values_of j {a = a} (stop e f) m = nothing a f
    values_of j (reads e x) m = (words m, values_of j x (suc m))
    values_of j (rule {n = n} {r = r} i h x) m = (make (Val n) (G n) i h (makes n) (front (row_at G n i) r (values_of j x m)), back (row_at G n i) r (values_of j x m))
    values_of j (into x) m = values_of j x m
    values_of j (out x) m = values_of j x m
