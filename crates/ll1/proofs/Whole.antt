-- What begins a sentence can be read, and what can be read begins a sentence.
-- Assumes nothing.
use mathlib.Core.Bool.{Bool, true, false}
use mathlib.Core.Path.{◌≡◌, refl, sym, ◌∙◌, ap}
use mathlib.Core.List.{List, [], ◌∷◌, ◌++◌, nil≢cons, head-eq_of_cons-eq, tail-eq_of_cons-eq}
use Prim.Native.Nat.{ℕ, zero, suc, ◌+◌, ◌<◌, ◌≤◌}
use native.Mathlib.Nat.{suc-add}
use native.Mathlib.Omega.{arith}
use lib.ListN.{length, get_or}
use lib.Dec.{ltb}
use borrow.Author.Tests.{ltb-true}
use Rattle.ll1.specs.Grammar.{word, part, In, Out, Row, Grammar, row_at, Reads, stop, reads, rule, into, out, Sentence, Begins, Continues}
use Rattle.ll1.proofs.Tests.{Claims, smaller, some_small, Passes}
use Rattle.ll1.proofs.Sets.{clash, and_left, and_right}

module _ {K P : Type 0} (G : Grammar K P) where
  -- levels that are not needed
  lift : (m j : ℕ) (b : Row K P) {k : ℕ} {a : Row K P} {w : List K} {d : List ℕ} → Reads G j b k a w d → Reads G (j + m) b (k + m) a w d
  lift m j b (stop e f) = stop (ap (λ (x : ℕ). x + m) e) f
  lift m j b (reads e x) = reads e (lift m j b x)
  lift m j b (rule i h x) = rule i h (lift m j b x)
  lift m j b (into x) = rw suc-add (into (lift m j b x))
  lift m j b (out x) = out (rw suc-add at (lift m j b x))

  -- one after the other
  join : (i j : ℕ) (b c : Row K P) {k : ℕ} {a : Row K P} {u v : List K} {d e : List ℕ} → Reads G j b k a u d → Reads G i c j b v e → Reads G i c k a (u ++ v) (d ++ e)
  join i j b c (stop e f) y = rw (e, f) y
  join i j b c (reads e x) y = reads e (join i j b c x y)
  join i j b c (rule n h x) y = rule n h (join i j b c x y)
  join i j b c (into x) y = into (join i j b c x y)
  join i j b c (out x) y = out (join i j b c x y)

  -- the first words of what is read are read
  cut : (j : ℕ) (b : Row K P) {k : ℕ} {a : Row K P} {w : List K} {d : List ℕ} → Reads G j b k a w d → (u v : List K) → w ≡ u ++ v → Begins G k a u
  cut j b {k} {a} x [] v e = ([], k, a, stop refl refl)
  cut j b (stop f g) (s ∷ u) v e = absurd (nil≢cons e)
  cut j b {k = k} (reads {t = t} {r = r} f x) (s ∷ u) v e = let (d, l, c, y) = cut j b {k = k} {a = r} x u v (tail-eq_of_cons-eq e) in (d, l, c, reads (f ∙ head-eq_of_cons-eq e) y)
  cut j b (rule i h x) (s ∷ u) v e = let (d, l, c, y) = cut j b x (s ∷ u) v e in (i ∷ d, l, c, rule i h y)
  cut j b (into {k = k} {r = r} {w = w} {d = h} x) (s ∷ u) v e = let (d, l, c, y) = cut j b {k = k} {a = r} {w = w} {d = h} x (s ∷ u) v e in (d, l, c, into y)
  cut j b {k = k} (out {r = r} {w = w} {d = h} x) (s ∷ u) v e = let (d, l, c, y) = cut j b {k = suc k} {a = r} {w = w} {d = h} x (s ∷ u) v e in (d, l, c, out y)

  pub shorter : (k : ℕ) (a : Row K P) (u v : List K) → Begins G k a (u ++ v) → Begins G k a u
  shorter k a u v (d, j, b, x) = cut j b x u v refl

  pub beginning : (k : ℕ) (a : Row K P) (u v : List K) → Sentence G k a (u ++ v) → Begins G k a u
  beginning k a u v (d, j, x) = cut j [] x u v refl

  -- a row can be completed, where there are levels enough
  record Complete (a : Row K P) : Type 0 where
    levels : ℕ
    words : List K
    rules : List ℕ
    done : (k : ℕ) → levels ≤ k → (j : ℕ) × Reads G j [] k a words rules

  complete_word : (t : K) (r : Row K P) → Complete r → Complete (word t ∷ r)
  complete_word t r x = record { levels = x.levels; words = t ∷ x.words; rules = x.rules; done = λ k h. let (j, y) = x.done k h in (j, reads refl y) }

  complete_rule : (n : P) (i : ℕ) (r : Row K P) → i < length (G n) → Complete (row_at G n i ++ r) → Complete (part n ∷ r)
  complete_rule n i r e x = record { levels = x.levels; words = x.words; rules = i ∷ x.rules; done = λ k h. let (j, y) = x.done k h in (j, rule i e y) }

  complete_out : (r : Row K P) → Complete r → Complete (Out ∷ r)
  complete_out r x = record { levels = x.levels; words = x.words; rules = x.rules; done = λ k h. let (j, y) = x.done (suc k) (omega arith) in (j, out y) }

  complete_into : (r : Row K P) → Complete r → Complete (In ∷ r)
  complete_into r x = record { levels = suc x.levels; words = x.words; rules = x.rules; done = go }
    where
      go : (k : ℕ) → suc x.levels ≤ k → (j : ℕ) × Reads G j [] k (In ∷ r) x.words x.rules
      go zero h = absurd (omega arith)
      go (suc k) h = let (j, y) = x.done k (omega arith) in (j, into y)

  module _ (C : Claims K P) (test : Passes C G) where
    small_in : (n : P) (ps : List (Row K P)) → some_small C n ps ≡ true → (i : ℕ) × (i < length ps) × (smaller C n (get_or ps i []) ≡ true)
    unfolding some_small
    small_in n [] e = clash (sym e)
    small_in n (p ∷ ps) e = go (smaller C n p) refl (small_in n ps) e
      where
        go : (b : Bool) → smaller C n p ≡ b → (some_small C n ps ≡ true → (i : ℕ) × (i < length ps) × (smaller C n (get_or ps i []) ≡ true))
            → elim b [ true ↦ true | false ↦ some_small C n ps ] ≡ true → (i : ℕ) × (i < suc (length ps)) × (smaller C n (get_or (p ∷ ps) i []) ≡ true)
        go true f h e = (0, omega arith, f)
        go false f h e = let (i, a, b) = h e in (suc i, omega arith, b)

    complete_row : (n : P) (r : Row K P) → ((m : P) → C.size m < C.size n → (q : Row K P) → Complete q → Complete (part m ∷ q)) → (p : Row K P) → smaller C n p ≡ true → Complete r → Complete (p ++ r)
    unfolding smaller
    complete_row n r lower [] e x = x
    complete_row n r lower (word t ∷ p) e x = complete_word t (p ++ r) (complete_row n r lower p e x)
    complete_row n r lower (part m ∷ p) e x =
        lower m (ltb-true _ _ (and_left (ltb (C.size m) (C.size n)) _ e)) (p ++ r) (complete_row n r lower p (and_right (ltb (C.size m) (C.size n)) _ e) x)
    complete_row n r lower (In ∷ p) e x = complete_into (p ++ r) (complete_row n r lower p e x)
    complete_row n r lower (Out ∷ p) e x = complete_out (p ++ r) (complete_row n r lower p e x)

    complete_low : (b : ℕ) (n : P) → C.size n < b → (r : Row K P) → Complete r → Complete (part n ∷ r)
    complete_low zero n h r x = absurd (omega arith)
    complete_low (suc b) n h r x =
        let (i, e, f) = small_in n (G n) (test.finite n) in
        complete_rule n i r e (complete_row n r (λ m y. complete_low b m (omega arith)) (row_at G n i) f x)

    complete : (a : Row K P) → Complete a
    complete [] = record { levels = 0; words = []; rules = []; done = λ k e. (k, stop refl refl) }
    complete (word t ∷ r) = complete_word t r (complete r)
    complete (part n ∷ r) = complete_low (suc (C.size n)) n (omega arith) r (complete r)
    complete (In ∷ r) = complete_into r (complete r)
    complete (Out ∷ r) = complete_out r (complete r)

    -- what can be read begins a sentence, in levels enough
    pub continues : (k : ℕ) (a : Row K P) (u : List K) → Begins G k a u → Continues G a u
    continues k a u (d, j, b, x) =
        let c = complete b in
        let (i, y) = c.done (j + c.levels) (omega arith) in
        (c.words, k + c.levels, (d ++ c.rules, i, join i (j + c.levels) b [] (lift c.levels j b x) y))

  -- and what begins a sentence can be read, in levels enough
  pub begun : (a : Row K P) (u : List K) → Continues G a u → (k : ℕ) × Begins G k a u
  begun a u (v, k, s) = (k, beginning k a u v s)
