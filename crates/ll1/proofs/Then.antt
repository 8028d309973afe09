-- One row after another; and what a reader's result says of the words, where its choice is the grammar's.
-- Assumes nothing.
use mathlib.Core.Bool.{Bool, true, false}
use mathlib.Core.Path.{◌≡◌, refl, sym, ◌∙◌, ap, subst}
use mathlib.Core.Logic.{◌⊎◌, inl, inr}
use mathlib.Core.List.{List, [], ◌∷◌, ◌++◌, append_assoc}
use mathlib.Core.Option.{Option, none, some}
use Prim.Native.Nat.{ℕ, suc, ◌-◌}
use native.Mathlib.Omega.{arith}
use lib.ListN.{length}
use Rattle.ll1.specs.Grammar.{word, part, In, Out, Row, Grammar, row_at, Read, sentence, refused, Answers}
use Rattle.ll1.specs.Goes.{Result, done, stopped, with_rule, look, Choice, Goes, end, shift, other, over, take, stuck, into, deep, out}
use Rattle.ll1.proofs.Tests.{Claims, pick, Passes}
use Rattle.ll1.proofs.Forced.{Good}
use Rattle.ll1.proofs.Parser.{Answer, ok, bad, after, barred, run}
use Rattle.ll1.proofs.Parser as answer
use Rattle.ll1.proofs.Ends.{Done}
use Rattle.ll1.proofs.Answered.{answer_of, computed}

-- rules put before those of a result
abbrev pub rules : {K : Type 0} → List ℕ → Result K → Result K
rules d (done k l w) = done k (d ++ l) w
rules d (stopped w) = stopped w

module _ {K P : Type 0} (choose : Choice K P) where
  abbrev pub Then : ℕ → Row K P → List K → Result K → Type 0
  Then k a w (done j d v) = (r : Row K P) (o : Result K) → Goes choose j r v o → Goes choose k (a ++ r) w (rules d o)
  Then k a w (stopped v) = (r : Row K P) → Goes choose k (a ++ r) w (stopped v)

  with_rules : (i : ℕ) (d : List ℕ) (o : Result K) → rules (i ∷ d) o ≡ with_rule i (rules d o)
  with_rules i d (done j l w) = refl
  with_rules i d (stopped w) = refl

  no_rules : (o : Result K) → rules [] o ≡ o
  no_rules (done j l w) = refl
  no_rules (stopped w) = refl

  then_take : (k : ℕ) (n : P) (i : ℕ) (p r : Row K P) (w : List K) (o : Result K) → choose n (look w) ≡ some (i, p) → Then k (p ++ r) w o → Then k (part n ∷ r) w (with_rule i o)
  then_take k n i p r w (done j d v) e x = λ b o y. take i p (rules d o) e (rw append_assoc at (x b o y)) (with_rules i d o)
  then_take k n i p r w (stopped v) e x = λ b. take i p (stopped v) e (rw append_assoc at (x b)) refl

  pub follow : {k : ℕ} {a : Row K P} {w : List K} {q : Result K} → Goes choose k a w q → Then k a w q
  follow end = λ r o x. rw (no_rules o) x
  follow (shift {q = done j d v} e x) = λ b o y. shift e (follow x b o y)
  follow (shift {q = stopped v} e x) = λ b. shift e (follow x b)
  follow (other n) = λ r. other n
  follow over = λ r. over
  follow (take {k = k} {n = n} {r = r} {w = w} i p o e x f) = rw f (then_take k n i p r w o e (follow x))
  follow (stuck e) = λ r. stuck e
  follow (into {q = done j d v} x) = λ b o y. into (follow x b o y)
  follow (into {q = stopped v} x) = λ b. into (follow x b)
  follow deep = λ r. deep
  follow (out {q = done j d v} x) = λ b o y. out (follow x b o y)
  follow (out {q = stopped v} x) = λ b. out (follow x b)

module _ {K P : Type 0} (C : Claims K P) (G : Grammar K P) where
  -- the grammar's own choice
  abbrev pub with_row : P → Option ℕ → Option (ℕ × Row K P)
  with_row n none = none
  with_row n (some i) = some (i, row_at G n i)

  abbrev pub picks : Choice K P
  picks n x = with_row n (pick C n x 0 (G n))

  -- what the parser of the theory answers where a reader has a result
  abbrev Says : Answer K → Result K → Type 0
  Says o (done j d []) = o ≡ ok d
  Says o (done j d (t ∷ v)) = o ≡ bad (t ∷ v)
  Says o (stopped v) = (o ≡ bad v) ⊎ (o ≡ answer.deep v)

  says-rule : (i : ℕ) (o : Answer K) (q : Result K) → Says o q → Says (after i o) (with_rule i q)
  says-rule i o (done j d []) e = ap (after i) e
  says-rule i o (done j d (t ∷ v)) e = ap (after i) e
  says-rule i o (stopped v) (inl e) = inl (ap (after i) e)
  says-rule i o (stopped v) (inr e) = inr (ap (after i) e)

  not_same : (t s : K) → ¬ (t ≡ s) → C.same t s ≡ false
  not_same t s n = go (C.same t s) refl
    where
      go : (b : Bool) → C.same t s ≡ b → b ≡ false
      go true e = absurd (n (C.same_true t s e))
      go false e = refl

  same_is : (t s : K) → t ≡ s → C.same t s ≡ true
  same_is t s e = ap (λ (x : K). C.same x s) e ∙ C.same_self s

  barred_says : (r : Row K P) (w : List K) → Says (barred C G r w) (stopped w)
  unfolding barred
  barred_says [] w = inl refl
  barred_says (word t ∷ r) [] = inl refl
  barred_says (word t ∷ r) (s ∷ w) = go (C.same t s)
    where
      go : (b : Bool) → Says (elim b [ true ↦ answer.deep (s ∷ w) | false ↦ bad (s ∷ w) ]) (stopped (s ∷ w))
      go true = inr refl
      go false = inl refl
  barred_says (part n ∷ r) w = inl refl
  barred_says (In ∷ r) w = inl refl
  barred_says (Out ∷ r) w = inl refl

  picked : (n : P) (i : ℕ) (p : Row K P) (o : Option ℕ) → with_row n o ≡ some (i, p) → (o ≡ some i) × (row_at G n i ≡ p)
  picked n i p none e = let z : ◌≡◌ {A = ℕ} 0 1 = cc in absurd (omega arith)
  picked n i p (some j) e =
      let g : ◌≡◌ {A = ℕ × Row K P} (j, row_at G n j) (i, p) = cc in
      let same : j ≡ i = ap (λ (x : ℕ × Row K P). x.0) g in
      (ap {B = Option ℕ} some same, ap (row_at G n) (sym same) ∙ ap (λ (x : ℕ × Row K P). x.1) g)

  no_pick : (n : P) (o : Option ℕ) → with_row n o ≡ none → o ≡ none
  no_pick n none e = refl
  no_pick n (some j) e = let z : ◌≡◌ {A = ℕ} 0 1 = cc in absurd (omega arith)

  said : {k : ℕ} {a : Row K P} {w : List K} {q : Result K} → Goes picks k a w q → (f : ℕ) × Says (run C G f k a w) q
  unfolding run
  said (end {w = []}) = (1, refl)
  said (end {w = t ∷ w}) = (1, refl)
  said (shift {k = k} {t = t} {s = s} {r = r} {w = w} {q = q} e x) =
      let (f, y) = said x in (suc f, subst (λ (b : Bool). Says (elim b [ true ↦ run C G f k r w | false ↦ bad (s ∷ w) ]) q) (sym (same_is t s e)) y)
  said (other {t = t} {s = s} n) = (1, rw (not_same t s n, run) (inl refl))
  said over = (1, inl refl)
  said (take {k = k} {n = n} {r = r} {w = w} i p o e x g) =
      let (f, y) = said x in
      let (h, same) = picked n i p (pick C n (look w) 0 (G n)) e in
      (suc f, rw (g, h, run) (says-rule i (run C G f k (row_at G n i ++ r) w) o (rw same y)))
  said (stuck {n = n} {w = w} e) = (1, rw (no_pick n (pick C n (look w) 0 (G n)) e, run) (inl refl))
  said (into x) = let (f, y) = said x in (suc f, y)
  said (deep {r = r} {w = w}) = (1, barred_says r w)
  said (out x) = let (f, y) = said x in (suc f, y)

  -- what the result says of the words
  abbrev pub read_of : List K → Result K → Read
  read_of w (done j d []) = sentence
  read_of w (done j d (t ∷ v)) = refused (length w - length (t ∷ v))
  read_of w (stopped v) = refused (length w - length v)

  module _ (test : Passes C G) where
    says-answer : (k : ℕ) (a : Row K P) (w : List K) (o : Answer K) (q : Result K) → Says o q → (Done o → Answers G k a w (answer_of C G test k a w o)) → Answers G k a w (read_of w q)
    says-answer k a w o (done j d []) e x = (rw e at x) tt
    says-answer k a w o (done j d (t ∷ v)) e x = (rw e at x) tt
    says-answer k a w o (stopped v) (inl e) x = (rw e at x) tt
    says-answer k a w o (stopped v) (inr e) x = (rw e at x) tt

    pub goes-answers : (k : ℕ) (a : Row K P) (w : List K) (q : Result K) → Good C a → Goes picks k a w q → Answers G k a w (read_of w q)
    goes-answers k a w q g x = let (f, y) = said x in says-answer k a w (run C G f k a w) q y (λ d. computed C G test k a f w g d)
