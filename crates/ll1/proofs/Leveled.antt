-- What the values of a derivation keep with the levels that were left where they were read: if each row hands it on, every derivation has it.
-- Assumes nothing.
use mathlib.Core.Bool.{true}
use mathlib.Core.Path.{◌≡◌, refl, subst}
use mathlib.Core.List.{List, [], ◌∷◌, ◌++◌, cons≢nil}
use Prim.Native.Nat.{ℕ, zero, suc, ◌+◌, ◌<◌}
use native.Mathlib.Nat.{le_of_suc-le-suc}
use native.Mathlib.Omega.{arith}
use lib.ListN.{length, get_or}
use Rattle.ll1.specs.Grammar.{word, part, In, Out, Row, Grammar, row_at, Reads, stop, reads, rule, into, out}
use Rattle.ll1.specs.Values.{Values, Makes, make, front, back, nothing, values_of}
use Rattle.ll1.specs.Rows.{closes}

module _ {K P : Type 0} (W : Type 0) (Val : P → Type 0) (Q : ℕ → (n : P) → Val n → Type 0) where
  -- with k levels left each part of the row has it
  abbrev pub Kept : ℕ → (r : Row K P) → Values W Val r → Type 0
  Kept k [] v = Unit
  Kept k (word t ∷ r) v = Kept k r v.1
  Kept k (part n ∷ r) v = Q k n v.0 × Kept k r v.1
  Kept k (In ∷ r) v = (i : ℕ) × (k ≡ suc i) × Kept i r v
  Kept k (Out ∷ r) v = Kept (suc k) r v

  -- each row closes what it opens, and hands it on
  abbrev pub Hands : (A : Type 0) (R : ℕ → A → Type 0) (rows : List (Row K P)) → Makes W Val A rows → Type 0
  Hands A R [] m = Unit
  Hands A R (r ∷ rows) m = (closes 0 r ≡ true) × ((k : ℕ) (v : Values W Val r) → Kept k r v → R k (m.0 v)) × Hands A R rows m.1

  pub hands_make : (A : Type 0) (R : ℕ → A → Type 0) (rows : List (Row K P)) (m : Makes W Val A rows) → Hands A R rows m → (i : ℕ) (h : i < length rows) (k : ℕ) (v : Values W Val (get_or rows i []))
      → Kept k (get_or rows i []) v → R k (make W Val A rows i h m v)
  unfolding make
  hands_make A R [] m s i h k v q = absurd (omega arith)
  hands_make A R (r ∷ rows) m s zero h k v q = s.1 k v q
  hands_make A R (r ∷ rows) m s (suc i) h k v q = hands_make A R rows m.1 s.2 i (le_of_suc-le-suc h) k v q

  hands_closes : (A : Type 0) (R : ℕ → A → Type 0) (rows : List (Row K P)) (m : Makes W Val A rows) → Hands A R rows m → (i : ℕ) → i < length rows → closes 0 (get_or rows i []) ≡ true
  hands_closes A R [] m s i h = absurd (omega arith)
  hands_closes A R (r ∷ rows) m s zero h = s.0
  hands_closes A R (r ∷ rows) m s (suc i) h = hands_closes A R rows m.1 s.2 i (le_of_suc-le-suc h)

  -- a row before another, with o levels of its own open
  kept-split : (p r : Row K P) (k o : ℕ) (v : Values W Val (p ++ r)) → closes o p ≡ true → Kept k (p ++ r) v → Kept k p (front W Val p r v) × Kept (k + o) r (back W Val p r v)
  unfolding front back closes
  kept-split [] r k zero v c q = (tt, subst (λ (n : ℕ). Kept n r v) (omega arith) q)
  kept-split [] r k (suc o) v c q = absurd (let z : ◌≡◌ {A = ℕ} 0 1 = cc in omega arith)
  kept-split (word t ∷ p) r k o v c q = kept-split p r k o v.1 c q
  kept-split (part n ∷ p) r k o v c q = let (a, b) = kept-split p r k o v.1 c q.1 in ((q.0, a), b)
  kept-split (In ∷ p) r k o v c (i, e, q) =
      let (a, b) = kept-split p r i (suc o) v c q in
      ((i, e, a), subst (λ (n : ℕ). Kept n r (back W Val p r v)) (omega arith) b)
  kept-split (Out ∷ p) r k zero v c q = absurd (let z : ◌≡◌ {A = ℕ} 0 1 = cc in omega arith)
  kept-split (Out ∷ p) r k (suc o) v c q =
      let (a, b) = kept-split p r (suc k) o v c q in
      (a, subst (λ (n : ℕ). Kept n r (back W Val p r v)) (omega arith) b)

  kept-nothing : (k : ℕ) (a : Row K P) (e : a ≡ []) → Kept k a (nothing W Val a e)
  unfolding nothing
  kept-nothing k [] e = tt
  kept-nothing k (x ∷ r) e = absurd (cons≢nil e)

  module _ (G : Grammar K P) (makes : (n : P) → Makes W Val (Val n) (G n)) (hands : (n : P) → Hands (Val n) (λ k v. Q k n v) (G n) (makes n)) (words : ℕ → W) where
    pub kept : (j : ℕ) {k : ℕ} {a : Row K P} {w : List K} {d : List ℕ} (x : Reads G j [] k a w d) (m : ℕ) → Kept k a (values_of W Val G makes words j x m)
    unfolding values_of
    kept j {k} {a} (stop e f) m = kept-nothing k a f
    kept j (reads e x) m = kept j x (suc m)
    kept j {k} (rule {n = n} {r = r} i h x) m =
        let whole = kept j x m in
        let v = values_of W Val G makes words j x m in
        let (a, b) = kept-split (row_at G n i) r k 0 v (hands_closes (Val n) (λ k v. Q k n v) (G n) (makes n) (hands n) i h) whole in
        (hands_make (Val n) (λ k v. Q k n v) (G n) (makes n) (hands n) i h k (front W Val (row_at G n i) r v) a, subst (λ (l : ℕ). Kept l r (back W Val (row_at G n i) r v)) (omega arith) b)
    kept j (into {k = k} x) m = (k, refl, kept j x m)
    kept j (out x) m = kept j x m
