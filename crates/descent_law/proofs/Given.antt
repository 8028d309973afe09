-- What the words of a sentence come to by the descent is what its derivation is worth.
-- Assumes nothing.
use mathlib.Core.Path.{◌≡◌, refl, sym, ◌∙◌, subst}
use mathlib.Core.List.{List, [], ◌∷◌, ◌++◌, map, cons≢nil}
use mathlib.Core.Option.{some}
use mathlib.Core.Bool.{true, false}
use Prim.Native.Nat.{ℕ, zero, suc, ◌+◌, ◌<◌}
use native.Mathlib.Nat.{add-zero}
use native.Mathlib.Omega.{arith}
use lib.ListN.{length, get_or, drop}
use Rattle.ll1.specs.Grammar.{word, part, In, Out, Row, Grammar, row_at, Reads, stop, reads, rule, into, out}
use Rattle.ll1.specs.Values.{Values, Makes, front, back, nothing, values_of}
use Rattle.ll1.specs.Goes.{look}
use Rattle.ll1.specs.Rows.{closes}
use Rattle.ll1.proofs.Tests.{Claims, pick, Passes}
use Rattle.ll1.proofs.Forced.{Good, live_end, forced, good-rule}
use Rattle.descent_law.specs.Gives.{Giving, RowGives, Gives}

module _ {K P : Type 0} (W : Type 0) (Val : P → Type 0) (kind : W → K) where
  clash : {A : Type 0} → false ≡ true → A
  clash e = let z : ◌≡◌ {A = ℕ} 0 1 = cc in absurd (omega arith)

  -- a row that closes what is open is put before another
  pub split : (R : Giving W Val kind) (o : ℕ) (p r : Row K P) (k : ℕ) (ws : List W) (vs : Values W Val (p ++ r)) (rest : List W) → closes o p ≡ true → RowGives W Val kind R (p ++ r) k ws vs rest
      → (mid : List W) × RowGives W Val kind R p k ws (front W Val p r vs) mid × RowGives W Val kind R r (k + o) mid (back W Val p r vs) rest
  unfolding front back closes
  split R zero [] r k ws vs rest c x = (ws, refl, rw add-zero x)
  split R (suc o) [] r k ws vs rest c x = clash c
  split R o (word t ∷ p) r k ws vs rest c (tail, e, q, x) = let (mid, y, z) = split R o p r k tail vs.1 rest c x in (mid, (tail, e, q, y), z)
  split R o (part n ∷ p) r k ws vs rest c (b, q, x) = let (mid, y, z) = split R o p r k b vs.1 rest c x in (mid, (b, q, y), z)
  split R o (In ∷ p) r k ws vs rest c (a, q, x) =
      let (mid, y, z) = split R (suc o) p r a ws vs rest c x in
      (mid, (a, q, y), subst (λ (l : ℕ). RowGives W Val kind R r l mid (back W Val p r vs) rest) (omega arith) z)
  split R zero (Out ∷ p) r k ws vs rest c x = clash c
  split R (suc o) (Out ∷ p) r k ws vs rest c x =
      let (mid, y, z) = split R o p r (suc k) ws vs rest c x in
      (mid, y, subst (λ (l : ℕ). RowGives W Val kind R r l mid (back W Val p r vs) rest) (omega arith) z)

  -- what holds of each part holds of the row
  pub row_more : (R S : Giving W Val kind) → ((n : P) (k : ℕ) (ws : List W) (v : Val n) (rest : List W) → R n k ws v rest → S n k ws v rest)
      → (a : Row K P) (k : ℕ) (ws : List W) (vs : Values W Val a) (rest : List W) → RowGives W Val kind R a k ws vs rest → RowGives W Val kind S a k ws vs rest
  row_more R S f [] k ws vs rest x = x
  row_more R S f (word t ∷ r) k ws vs rest (tail, e, q, x) = (tail, e, q, row_more R S f r k tail vs.1 rest x)
  row_more R S f (part n ∷ r) k ws vs rest (mid, y, x) = (mid, f n k ws vs.0 mid y, row_more R S f r k mid vs.1 rest x)
  row_more R S f (In ∷ r) k ws vs rest (m, q, x) = (m, q, row_more R S f r m ws vs rest x)
  row_more R S f (Out ∷ r) k ws vs rest x = row_more R S f r (suc k) ws vs rest x

  module _ (C : Claims K P) (G : Grammar K P) (makes : (n : P) → Makes W Val (Val n) (G n)) where
    abbrev G' : ℕ → Giving W Val kind
    G' = Gives W Val kind C G makes

    pub more : (f : ℕ) (n : P) (k : ℕ) (ws : List W) (v : Val n) (rest : List W) → G' f n k ws v rest → G' (suc f) n k ws v rest
    unfolding Gives
    more zero n k ws v rest x = absurd x
    more (suc f) n k ws v rest (i, h, p, vs, e, x) = (i, h, p, vs, e, row_more (G' f) (G' (suc f)) (more f) (row_at G n i) k ws vs rest x)

    module _ (test : Passes C G) (closed : (n : P) (i : ℕ) → i < length (G n) → closes 0 (row_at G n i) ≡ true) (none : W) (all : List W) where
      abbrev at : ℕ → W
      at m = get_or all m none

      -- the words from number m on
      abbrev Kinds : List W → List K
      Kinds ws = map kind ws

      empty : (ws : List W) → [] ≡ Kinds ws → ws ≡ []
      empty [] e = refl
      empty (w ∷ ws) e = absurd (cons≢nil (sym e))

      first : (s : K) (w : List K) (ws : List W) → s ∷ w ≡ Kinds ws → (x : W) × (tail : List W) × (ws ≡ x ∷ tail) × (s ≡ kind x) × (w ≡ Kinds tail)
      first s w [] e = absurd (cons≢nil e)
      first s w (x ∷ tail) e = (x, tail, refl, cc, cc)

      front-word : (m : ℕ) (x : W) (tail : List W) (l : List W) → drop m l ≡ x ∷ tail → (get_or l m none ≡ x) × (drop (suc m) l ≡ tail)
      front-word zero x tail [] e = absurd (cons≢nil (sym e))
      front-word zero x tail (y ∷ l) e = (cc, cc)
      front-word (suc m) x tail [] e = absurd (cons≢nil (sym e))
      front-word (suc m) x tail (y ∷ l) e = front-word m x tail l e

      pub given : (j : ℕ) {k : ℕ} {a : Row K P} {w : List K} {d : List ℕ} → Good C a → (x : Reads G j [] k a w d) (m : ℕ) (ws : List W) → w ≡ Kinds ws → drop m all ≡ ws
          → (f : ℕ) × RowGives W Val kind (G' f) a k ws (values_of W Val G makes at j x m) []
      unfolding Gives values_of nothing
      given j g (stop {k = k} {a = []} e f) m ws q h = (0, empty ws q)
      given j g (stop {k = k} {a = y ∷ a} e f) m ws q h = absurd (cons≢nil f)
      given j {k} g (reads {t = t} {s = s} {r = r} {w = w} e x) m ws q h =
          let (y, tail, s₁, s₂, s₃) = first s w ws q in
          let (a, b) = front-word m y tail all (h ∙ s₁) in
          let (f, z) = given j g x (suc m) tail s₃ b in
          (f, (tail, rw a s₁, rw a (sym s₂ ∙ sym e), z))
      given j g (rule {k = k} {n = n} {r = r} {w = w} {d = d} i h x) m ws q e =
          let (f, z) = given j (good-rule C G test n i r h g) x m ws q e in
          let vs : Values W Val (row_at G n i ++ r) = values_of W Val G makes at j x m in
          let (mid, y, u) = split (G' f) 0 (row_at G n i) r k ws vs [] (closed n i h) z in
          let p : pick C n (look w) 0 (G n) ≡ some i = forced C G test j [] k n i r w d g h x (live_end C G test w) in
          (suc f, (mid, (i, h, rw q at p, front W Val (row_at G n i) r vs, refl, y), row_more (G' f) (G' (suc f)) (more f) r k mid (back W Val (row_at G n i) r vs) [] (rw add-zero at u)))
      given j g (into x) m ws q h = let (f, z) = given j g.1 x m ws q h in (f, (_, refl, z))
      given j g (out x) m ws q h = given j g x m ws q h
