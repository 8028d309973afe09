-- With steps enough the parser answers; how many it takes is computed along the way.
-- Assumes nothing.
use mathlib.Core.Bool.{Bool, true, false}
use mathlib.Core.Path.{◌≡◌, refl}
use mathlib.Core.List.{List, [], ◌∷◌, ◌++◌}
use mathlib.Core.Option.{Option, none, some}
use Prim.Native.Nat.{ℕ, zero, suc, ◌<◌}
use native.Mathlib.Omega.{arith}
use lib.ListN.{length}
use lib.Dec.{ltb}
use borrow.Author.Tests.{ltb-true}
use Rattle.ll1.specs.Grammar.{word, part, In, Out, Row, Grammar, row_at}
use Rattle.ll1.specs.Goes.{look}
use Rattle.ll1.proofs.Tests.{Claims, empty_row, falls, pick, Passes}
use Rattle.ll1.proofs.Sets.{and_left, and_right}
use Rattle.ll1.proofs.Forced.{keeps_at, picked_at}
use Rattle.ll1.proofs.Parser.{Answer, ok, bad, deep, tired, after, barred, run}

abbrev pub Done : {K : Type 0} → Answer K → Type 0
Done (ok d) = Unit
Done (bad w) = Unit
Done (deep w) = Unit
Done tired = ⊥

module _ {K P : Type 0} (C : Claims K P) (G : Grammar K P) (test : Passes C G) where
  -- the parser answers from row a
  abbrev pub Finds : List K → Row K P → Type 0
  Finds w a = (k : ℕ) → (f : ℕ) × Done (run C G f k a w)

  -- from every row, once a word is read
  abbrev Later : List K → Type 0
  Later [] = Unit
  Later (s ∷ w) = (a : Row K P) → Finds w a

  unfoldable pub finds_word : (w : List K) → Later w → (t : K) (r : Row K P) → Finds w (word t ∷ r)
  unfolding run
  finds_word [] l t r k = (1, tt)
  finds_word (s ∷ w) l t r k = let (f, d) = l r k in (suc f, go (C.same t s) f d)
    where
      go : (q : Bool) (f : ℕ) → Done (run C G f k r w) → Done {K = K} (elim q [ true ↦ run C G f k r w | false ↦ bad (s ∷ w) ])
      go true f d = d
      go false f d = tt

  pub barred_done : (r : Row K P) (w : List K) → Done (barred C G r w)
  unfolding barred
  barred_done [] w = tt
  barred_done (word t ∷ r) [] = tt
  barred_done (word t ∷ r) (s ∷ w) = go (C.same t s)
    where
      go : (q : Bool) → Done {K = K} (elim q [ true ↦ deep (s ∷ w) | false ↦ bad (s ∷ w) ])
      go true = tt
      go false = tt
  barred_done (part n ∷ r) w = tt
  barred_done (In ∷ r) w = tt
  barred_done (Out ∷ r) w = tt

  unfoldable pub finds_into : (w : List K) (r : Row K P) → Finds w r → Finds w (In ∷ r)
  unfolding run
  finds_into w r x zero = (1, barred_done r w)
  finds_into w r x (suc k) = let (f, d) = x k in (suc f, d)

  unfoldable pub finds_out : (w : List K) (r : Row K P) → Finds w r → Finds w (Out ∷ r)
  unfolding run
  finds_out w r x k = let (f, d) = x (suc k) in (suc f, d)

  unfoldable pub finds_rule : (w : List K) (n : P) (r : Row K P) → ((i : ℕ) → i < length (G n) → Finds w (row_at G n i ++ r)) → Finds w (part n ∷ r)
  unfolding run
  finds_rule w n r x k = let (f, d) = go (pick C n (look w) 0 (G n)) refl in (suc f, d)
    where
      done : (i : ℕ) (o : Answer K) → Done o → Done (after i o)
      done i (ok d) e = tt
      done i (bad v) e = tt
      done i (deep v) e = tt
      done i tired e = e

      go : (o : Option ℕ) → pick C n (look w) 0 (G n) ≡ o → (f : ℕ) × Done {K = K} (elim o [ none ↦ bad w | some i ↦ after i (run C G f k (row_at G n i ++ r) w) ])
      go none e = (0, tt)
      go (some i) e = let (f, d) = x i (picked_at C G test n (look w) i e) k in (f, done i (run C G f k (row_at G n i ++ r) w) d)

  -- the row p of a rule of n, where the parts of lower rank are read
  unfoldable pub finds_row : (w : List K) → Later w → (n : P) (r : Row K P)
      → ((m : P) → C.rank m < C.rank n → (q : Row K P) → (C.empty m ≡ true → Finds w q) → Finds w (part m ∷ q))
      → (p : Row K P) → falls C n p ≡ true → (empty_row C p ≡ true → Finds w r) → Finds w (p ++ r)
  unfolding falls empty_row
  finds_row w l n r lower [] e x = x refl
  finds_row w l n r lower (word t ∷ p) e x = finds_word w l t (p ++ r)
  finds_row w l n r lower (part m ∷ p) e x =
      lower m (ltb-true (C.rank m) (C.rank n) (and_left (ltb (C.rank m) (C.rank n)) _ e)) (p ++ r)
      (λ q. finds_row w l n r lower p (rw q at (and_right (ltb (C.rank m) (C.rank n)) _ e)) (λ v. x (rw (q, v))))
  finds_row w l n r lower (In ∷ p) e x = finds_into w (p ++ r) (finds_row w l n r lower p e x)
  finds_row w l n r lower (Out ∷ p) e x = finds_out w (p ++ r) (finds_row w l n r lower p e x)

  unfoldable pub finds_low : (w : List K) → Later w → (b : ℕ) (n : P) → C.rank n < b → (r : Row K P) → (C.empty n ≡ true → Finds w r) → Finds w (part n ∷ r)
  finds_low w l zero n h r x = absurd (omega arith)
  finds_low w l (suc b) n h r x =
      finds_rule w n r
      (λ i o. finds_row w l n r (λ m g. finds_low w l b m (omega arith)) (row_at G n i) (keeps_at C G test n i o).lower (λ v. x (rw v at (keeps_at C G test n i o).vanishes)))

  unfoldable pub finds_any : (w : List K) → Later w → (a : Row K P) → Finds w a
  unfolding run
  finds_any [] l [] = λ k. (1, tt)
  finds_any (s ∷ w) l [] = λ k. (1, tt)
  finds_any [] l (word t ∷ r) = finds_word [] l t r
  finds_any (s ∷ w) l (word t ∷ r) = finds_word (s ∷ w) l t r
  finds_any [] l (part n ∷ r) = finds_low [] l (suc (C.rank n)) n (omega arith) r (λ v. finds_any [] l r)
  finds_any (s ∷ w) l (part n ∷ r) = finds_low (s ∷ w) l (suc (C.rank n)) n (omega arith) r (λ v. finds_any (s ∷ w) l r)
  finds_any [] l (In ∷ r) = finds_into [] r (finds_any [] l r)
  finds_any (s ∷ w) l (In ∷ r) = finds_into (s ∷ w) r (finds_any (s ∷ w) l r)
  finds_any [] l (Out ∷ r) = finds_out [] r (finds_any [] l r)
  finds_any (s ∷ w) l (Out ∷ r) = finds_out (s ∷ w) r (finds_any (s ∷ w) l r)

  unfoldable pub finds : (w : List K) (a : Row K P) → Finds w a
  finds [] = finds_any [] tt
  finds (s ∷ w) = finds_any (s ∷ w) (finds w)
