-- The laws of `every`, `first_not` and `listed`: a turn of a loop, its end, and what the whole says of each number.
-- Assumes nothing.
use mathlib.Core.Path.{◌≡◌, refl, sym, ap, ap₂, ◌∙◌}
use mathlib.Core.Bool.{Bool, true, false}
use Prim.Native.Nat.{ℕ, zero, suc, ◌+◌, ◌-◌, ◌≤◌, ◌<◌}
use native.Mathlib.Omega.{arith}
use native.Mathlib.Decide.{dec_lt}
use native.Mathlib.Numerals.{add-one}
use lib.ListN.{length, get_or}
use Rattle.file_law.specs.Answer.{unless, both, every, first_not, listed}

pub both_left : (a b : Bool) → both a b ≡ true → a ≡ true
both_left true b e = refl
both_left false b e = e

pub both_right : (a b : Bool) → both a b ≡ true → b ≡ true
both_right true b e = e
both_right false b e = absurd (let z : ◌≡◌ {A = ℕ} 0 1 = cc in omega arith)

-- ---- a loop over the numbers from i to end

module _ (p : ℕ → Bool) (end i : ℕ) where
  left : i < end → end - i ≡ suc (end - (i + 1))
  left h = omega arith

  none : end ≤ i → end - i ≡ 0
  none h = omega arith

  turn : i < end → every p (end - i) i ≡ both (p i) (every p (end - (i + 1)) (i + 1))
  unfolding every
  turn h = ap (λ (k : ℕ). every p k i) (left h) ∙ ap (λ (m : ℕ). both (p i) (every p (end - (i + 1)) m)) (sym (add-one i))

  pub fails : i < end → p i ≡ false → every p (end - i) i ≡ false
  fails h e = turn h ∙ ap (λ (b : Bool). both b (every p (end - (i + 1)) (i + 1))) e

  pub passes : i < end → p i ≡ true → every p (end - i) i ≡ every p (end - (i + 1)) (i + 1)
  passes h e = turn h ∙ ap (λ (b : Bool). both b (every p (end - (i + 1)) (i + 1))) e

  pub over : end ≤ i → every p (end - i) i ≡ true
  unfolding every
  over h = ap (λ (k : ℕ). every p k i) (none h)

  first-turn : i < end → first_not p (end - i) i ≡ unless (p i) i (first_not p (end - (i + 1)) (i + 1))
  unfolding first_not
  first-turn h = ap (λ (k : ℕ). first_not p k i) (left h) ∙ ap (λ (m : ℕ). unless (p i) i (first_not p (end - (i + 1)) m)) (sym (add-one i))

  pub stops : i < end → p i ≡ false → first_not p (end - i) i ≡ i
  stops h e = first-turn h ∙ ap (λ (b : Bool). unless b i (first_not p (end - (i + 1)) (i + 1))) e

  pub goes : i < end → p i ≡ true → first_not p (end - i) i ≡ first_not p (end - (i + 1)) (i + 1)
  goes h e = first-turn h ∙ ap (λ (b : Bool). unless b i (first_not p (end - (i + 1)) (i + 1))) e

  pub ends : end ≤ i → first_not p (end - i) i ≡ i
  unfolding first_not
  ends h = ap (λ (k : ℕ). first_not p k i) (none h)

-- ---- what the whole says

one_less : (i j : ℕ) → i + suc j ≡ suc i + j
one_less i j = omega arith

none_more : (i : ℕ) → i + 0 ≡ i
none_more i = omega arith

pub every_at : (p : ℕ → Bool) (n i : ℕ) → every p n i ≡ true → (j : ℕ) → j < n → p (i + j) ≡ true
unfolding every
every_at p zero i e j h = absurd (omega arith)
every_at p (suc n) i e zero h = ap p (none_more i) ∙ both_left (p i) (every p n (suc i)) e
every_at p (suc n) i e (suc j) h = ap p (one_less i j) ∙ every_at p n (suc i) (both_right (p i) (every p n (suc i)) e) j (omega arith)

pub every-all : (p : ℕ → Bool) (n i : ℕ) → ((j : ℕ) → j < n → p (i + j) ≡ true) → every p n i ≡ true
unfolding every
every-all p zero i h = refl
every-all p (suc n) i h =
    ap₂ both (ap p (sym (none_more i)) ∙ h 0 (omega arith))
    (every-all p n (suc i) (λ j b. ap p (sym (one_less i j)) ∙ h (suc j) (omega arith)))

first-whole : (p : ℕ → Bool) (n i : ℕ) (b : Bool) → p i ≡ b → (first_not p n (suc i) ≡ suc i + n → every p n (suc i) ≡ true)
    → unless b i (first_not p n (suc i)) ≡ i + suc n → both b (every p n (suc i)) ≡ true
first-whole p n i true e ih h = ih (h ∙ one_less i n)
first-whole p n i false e ih h = absurd (omega arith)

-- where none is met, the test holds of each
pub none-met : (p : ℕ → Bool) (n i : ℕ) → first_not p n i ≡ i + n → every p n i ≡ true
unfolding every first_not
none-met p zero i h = refl
none-met p (suc n) i h = first-whole p n i (p i) refl (none-met p n (suc i)) h

first-met : (p : ℕ → Bool) (n i : ℕ) (b : Bool) → (first_not p n (suc i) < suc i + n → every p n (suc i) ≡ false)
    → unless b i (first_not p n (suc i)) < i + suc n → both b (every p n (suc i)) ≡ false
first-met p n i true ih h = ih (omega arith)
first-met p n i false ih h = refl

-- .. and where one is met, not
pub one-met : (p : ℕ → Bool) (n i : ℕ) → first_not p n i < i + n → every p n i ≡ false
unfolding every first_not
one-met p zero i h = absurd (omega arith)
one-met p (suc n) i h = first-met p n i (p i) (one-met p n (suc i)) h

-- ---- the first of which it does not hold

pub true-false : {b : Bool} → b ≡ true → b ≡ false → ⊥
true-false e f = let z : ◌≡◌ {A = ℕ} 0 1 = cc in omega arith

pub first-bound : (p : ℕ → Bool) (n i : ℕ) → first_not p n i ≤ i + n
unfolding first_not
first-bound p zero i = omega arith
first-bound p (suc n) i = by_test (p i) (first-bound p n (suc i))
  where
    by_test : (b : Bool) → first_not p n (suc i) ≤ suc i + n → unless b i (first_not p n (suc i)) ≤ i + suc n
    by_test true h = omega arith
    by_test false h = omega arith

-- the test holds of each before it
pub first-before : (p : ℕ → Bool) (n i m : ℕ) → i ≤ m → m < first_not p n i → p m ≡ true
unfolding first_not
first-before p zero i m h l = absurd (omega arith)
first-before p (suc n) i m h l = by_test (p i) refl (dec_lt i m) (first-before p n (suc i) m) l
  where
    by_test : (b : Bool) → p i ≡ b → Dec (i < m) → (suc i ≤ m → m < first_not p n (suc i) → p m ≡ true) → m < unless b i (first_not p n (suc i)) → p m ≡ true
    by_test true e (yes g) ih l = ih g l
    by_test true e (no g) ih l = let z : m ≡ i = omega arith in ap p z ∙ e
    by_test false e d ih l = absurd (omega arith)

-- .. and not of it
pub first_fails : (p : ℕ → Bool) (n i : ℕ) → first_not p n i < i + n → p (first_not p n i) ≡ false
unfolding first_not
first_fails p zero i h = absurd (omega arith)
first_fails p (suc n) i h = by_test (p i) refl (first_fails p n (suc i)) h
  where
    by_test : (b : Bool) → p i ≡ b → (first_not p n (suc i) < suc i + n → p (first_not p n (suc i)) ≡ false)
        → unless b i (first_not p n (suc i)) < i + suc n → p (unless b i (first_not p n (suc i))) ≡ false
    by_test true e ih h = ih (omega arith)
    by_test false e ih h = e

-- where it does not hold of each, one is met
pub some_fails : (p : ℕ → Bool) (n : ℕ) → every p n 0 ≡ false → first_not p n 0 < n
some_fails p n e = at (dec_lt (first_not p n 0) n)
  where
    at : Dec (first_not p n 0 < n) → first_not p n 0 < n
    at (yes h) = h
    at (no h) = absurd (true-false (none-met p n 0 (omega (arith, first-bound p n 0))) e)

-- no other number is the first
pub first_is : (p : ℕ → Bool) (n place : ℕ) → place < n → ((m : ℕ) → m < place → p m ≡ true) → p place ≡ false → first_not p n 0 ≡ place
first_is p n place h before fails = at (dec_lt (first_not p n 0) place) (dec_lt place (first_not p n 0))
  where
    at : Dec (first_not p n 0 < place) → Dec (place < first_not p n 0) → first_not p n 0 ≡ place
    at (yes l) d = absurd (true-false (before (first_not p n 0) l) (first_fails p n 0 (omega arith)))
    at (no l) (yes g) = absurd (true-false (first-before p n 0 place (omega arith) g) fails)
    at (no l) (no g) = omega arith

pub length-listed : {A : Type 0} (g : ℕ → A) (n i : ℕ) → length (listed g n i) ≡ n
unfolding listed
length-listed g zero i = refl
length-listed g (suc n) i = ap suc (length-listed g n (suc i))

pub get_or-listed : {A : Type 0} (g : ℕ → A) (n i : ℕ) (d : A) (j : ℕ) → j < n → get_or (listed g n i) j d ≡ g (i + j)
unfolding listed
get_or-listed g zero i d j h = absurd (omega arith)
get_or-listed g (suc n) i d zero h = ap g (sym (none_more i))
get_or-listed g (suc n) i d (suc j) h = get_or-listed g n (suc i) d j (omega arith) ∙ ap g (sym (one_less i j))
