-- The derivation of a sentence, computed: what it is worth then computes too.
-- Assumes nothing.
use mathlib.Core.Bool.{Bool, true, false}
use mathlib.Core.Path.{◌≡◌, refl}
use mathlib.Core.List.{List, [], ◌∷◌, ◌++◌}
use mathlib.Core.Option.{Option, none, some}
use Prim.Native.Nat.{ℕ, zero, suc}
use Rattle.ll1.specs.Grammar.{word, part, In, Out, Row, Grammar, row_at, stop, reads, rule, into, out, Sentence}
use Rattle.ll1.specs.Goes.{look}
use Rattle.ll1.proofs.Tests.{Claims, pick, Passes}
use Rattle.ll1.proofs.Forced.{picked_at}
use Rattle.ll1.proofs.Parser.{Answer, ok, bad, deep, tired, after, barred, run}

module _ {K P : Type 0} (C : Claims K P) (G : Grammar K P) (test : Passes C G) where
  unfoldable pub after-word : (k : ℕ) (t s : K) (r : Row K P) (w : List K) (q : Bool) → C.same t s ≡ q → Option (Sentence G k r w) → Option (Sentence G k (word t ∷ r) (s ∷ w))
  after-word k t s r w true e (some x) = some (x.0, x.1, reads (C.same_true t s e) x.2)
  after-word k t s r w true e none = none
  after-word k t s r w false e o = none

  unfoldable pub after-rule : (k : ℕ) (n : P) (i : ℕ) (r : Row K P) (w : List K) → pick C n (look w) 0 (G n) ≡ some i → Option (Sentence G k (row_at G n i ++ r) w) → Option (Sentence G k (part n ∷ r) w)
  after-rule k n i r w e (some x) = some (i ∷ x.0, x.1, rule i (picked_at C G test n (look w) i e) x.2)
  after-rule k n i r w e none = none

  unfoldable pub by_rule : (k : ℕ) (n : P) (r : Row K P) (w : List K) (o : Option ℕ) → pick C n (look w) 0 (G n) ≡ o → ((i : ℕ) → Option (Sentence G k (row_at G n i ++ r) w)) → Option (Sentence G k (part n ∷ r) w)
  by_rule k n r w none e f = none
  by_rule k n r w (some i) e f = after-rule k n i r w e (f i)

  unfoldable pub after-into : (k : ℕ) (r : Row K P) (w : List K) → Option (Sentence G k r w) → Option (Sentence G (suc k) (In ∷ r) w)
  after-into k r w (some x) = some (x.0, x.1, into x.2)
  after-into k r w none = none

  unfoldable pub after-out : (k : ℕ) (r : Row K P) (w : List K) → Option (Sentence G (suc k) r w) → Option (Sentence G k (Out ∷ r) w)
  after-out k r w (some x) = some (x.0, x.1, out x.2)
  after-out k r w none = none

  -- with f steps and k levels
  unfoldable pub derived : ℕ → (k : ℕ) (a : Row K P) (w : List K) → Option (Sentence G k a w)
  derived zero k a w = none
  derived (suc f) k [] [] = some ([], k, stop refl refl)
  derived (suc f) k [] (t ∷ w) = none
  derived (suc f) k (word t ∷ r) [] = none
  derived (suc f) k (word t ∷ r) (s ∷ w) = after-word k t s r w (C.same t s) refl (derived f k r w)
  derived (suc f) k (part n ∷ r) w = by_rule k n r w (pick C n (look w) 0 (G n)) refl (λ i. derived f k (row_at G n i ++ r) w)
  derived (suc f) zero (In ∷ r) w = none
  derived (suc f) (suc k) (In ∷ r) w = after-into k r w (derived f k r w)
  derived (suc f) k (Out ∷ r) w = after-out k r w (derived f (suc k) r w)

  -- ---- it is there exactly where the parser says that the words are a sentence

  abbrev pub Accepts : Answer K → Type 0
  Accepts (ok d) = Unit
  Accepts (bad w) = ⊥
  Accepts (deep w) = ⊥
  Accepts tired = ⊥

  abbrev pub Agrees : {A : Type 0} → Answer K → Option A → Type 0
  Agrees o (some x) = Accepts o
  Agrees o none = ¬ Accepts o

  barred_agrees : (r : Row K P) (w : List K) → ¬ Accepts (barred C G r w)
  unfolding barred
  barred_agrees [] w h = h
  barred_agrees (word t ∷ r) [] h = h
  barred_agrees (word t ∷ r) (s ∷ w) h = go (C.same t s) h
    where
      go : (q : Bool) → ¬ Accepts (elim q [ true ↦ deep (s ∷ w) | false ↦ bad (s ∷ w) ])
      go true h = h
      go false h = h
  barred_agrees (part n ∷ r) w h = h
  barred_agrees (In ∷ r) w h = h
  barred_agrees (Out ∷ r) w h = h

  rule_agrees : (k : ℕ) (n : P) (i : ℕ) (r : Row K P) (w : List K) (e : pick C n (look w) 0 (G n) ≡ some i) (o : Answer K) (x : Option (Sentence G k (row_at G n i ++ r) w))
      → Agrees o x → Agrees (after i o) (after-rule k n i r w e x)
  unfolding after-rule
  rule_agrees k n i r w e (ok d) (some x) h = h
  rule_agrees k n i r w e (ok d) none h = h
  rule_agrees k n i r w e (bad v) (some x) h = h
  rule_agrees k n i r w e (bad v) none h = h
  rule_agrees k n i r w e (deep v) (some x) h = h
  rule_agrees k n i r w e (deep v) none h = h
  rule_agrees k n i r w e tired (some x) h = h
  rule_agrees k n i r w e tired none h = h

  pub agrees : (f k : ℕ) (a : Row K P) (w : List K) → Agrees (run C G f k a w) (derived f k a w)
  unfolding run derived after-word by_rule after-into after-out
  agrees zero k a w = λ h. h
  agrees (suc f) k [] [] = tt
  agrees (suc f) k [] (t ∷ w) = λ h. h
  agrees (suc f) k (word t ∷ r) [] = λ h. h
  agrees (suc f) k (word t ∷ r) (s ∷ w) = go (C.same t s) refl (run C G f k r w) (derived f k r w) (agrees f k r w)
    where
      go : (q : Bool) (e : C.same t s ≡ q) (o : Answer K) (x : Option (Sentence G k r w)) → Agrees o x
          → Agrees (elim q [ true ↦ o | false ↦ bad (s ∷ w) ]) (after-word k t s r w q e x)
      go true e o (some x) h = h
      go true e o none h = h
      go false e o x h = λ z. z
  agrees (suc f) k (part n ∷ r) w = go (pick C n (look w) 0 (G n)) refl (λ i. agrees f k (row_at G n i ++ r) w)
    where
      go : (o : Option ℕ) (e : pick C n (look w) 0 (G n) ≡ o) → ((i : ℕ) → Agrees (run C G f k (row_at G n i ++ r) w) (derived f k (row_at G n i ++ r) w))
          → Agrees (elim o [ none ↦ bad w | some i ↦ after i (run C G f k (row_at G n i ++ r) w) ]) (by_rule k n r w o e (λ i. derived f k (row_at G n i ++ r) w))
      go none e x = λ h. h
      go (some i) e x = rule_agrees k n i r w e (run C G f k (row_at G n i ++ r) w) (derived f k (row_at G n i ++ r) w) (x i)
  agrees (suc f) zero (In ∷ r) w = barred_agrees r w
  agrees (suc f) (suc k) (In ∷ r) w = go (run C G f k r w) (derived f k r w) (agrees f k r w)
    where
      go : (o : Answer K) (x : Option (Sentence G k r w)) → Agrees o x → Agrees o (after-into k r w x)
      go o (some x) h = h
      go o none h = h
  agrees (suc f) k (Out ∷ r) w = go (run C G f (suc k) r w) (derived f (suc k) r w) (agrees f (suc k) r w)
    where
      go : (o : Answer K) (x : Option (Sentence G (suc k) r w)) → Agrees o x → Agrees o (after-out k r w x)
      go o (some x) h = h
      go o none h = h
