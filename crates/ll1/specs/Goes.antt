-- What a reader that looks one word ahead does with a row, whole: the levels left, the rules, and the words that are left; or the words from the first that it cannot read.
-- For the inner promise of a reader; proofs/Then says what it means by the grammar.
-- Assumes nothing.
use Rattle.std.specs.Prelude.{◌≡◌, List, [], ◌∷◌, ◌++◌, ℕ, zero, suc}
use Rattle.std.proofs.Math.Option.{Option, none, some}
use Rattle.ll1.specs.Grammar.{word, part, In, Out, Row}

pub data Result (K : Type 0) : Type 0 where
  done : ℕ → List ℕ → List K → Result K
  stopped : List K → Result K

abbrev pub with_rule : {K : Type 0} → ℕ → Result K → Result K
with_rule i (done k d w) = done k (i ∷ d) w
with_rule i (stopped w) = stopped w

-- the next word, none at the end
abbrev pub look : {K : Type 0} → List K → Option K
look [] = none
look (t ∷ w) = some t

-- the rule, with its row, that the next word calls for
abbrev pub Choice : Type 0 → Type 0 → Type 0
Choice K P = P → Option K → Option (ℕ × Row K P)

pub data Goes {K P : Type 0} (choose : Choice K P) : ℕ → Row K P → List K → Result K → Type 0 where
  end : {k : ℕ} {w : List K} → Goes choose k [] w (done k [] w)
  shift : {k : ℕ} {t s : K} {r : Row K P} {w : List K} {q : Result K} → t ≡ s → Goes choose k r w q → Goes choose k (word t ∷ r) (s ∷ w) q
  other : {k : ℕ} {t s : K} {r : Row K P} {w : List K} → ¬ (t ≡ s) → Goes choose k (word t ∷ r) (s ∷ w) (stopped (s ∷ w))
  over : {k : ℕ} {t : K} {r : Row K P} → Goes choose k (word t ∷ r) [] (stopped [])
  take : {k : ℕ} {n : P} {r : Row K P} {w : List K} {q : Result K} (i : ℕ) (p : Row K P) (o : Result K) → choose n (look w) ≡ some (i, p) → Goes choose k (p ++ r) w o → q ≡ with_rule i o
      → Goes choose k (part n ∷ r) w q
  stuck : {k : ℕ} {n : P} {r : Row K P} {w : List K} → choose n (look w) ≡ none → Goes choose k (part n ∷ r) w (stopped w)
  into : {k : ℕ} {r : Row K P} {w : List K} {q : Result K} → Goes choose k r w q → Goes choose (suc k) (In ∷ r) w q
  deep : {r : Row K P} {w : List K} → Goes choose zero (In ∷ r) w (stopped w)
  out : {k : ℕ} {r : Row K P} {w : List K} {q : Result K} → Goes choose (suc k) r w q → Goes choose k (Out ∷ r) w q
