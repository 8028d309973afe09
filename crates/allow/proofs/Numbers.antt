-- The walk by numbers is the walk of uses_law.
-- Assumes nothing.
use mathlib.Core.Bool.{Bool, true, false, cond}
use mathlib.Core.Path.{◌≡◌, refl, sym, ◌∙◌, ap}
use mathlib.Core.List.{List, ◌∷◌}
use mathlib.Core.Option.{Option}
use Prim.Native.Nat.{ℕ, zero, suc, ◌+◌, ◌-◌, ◌≤◌, ◌<◌}
use native.Mathlib.Omega.{arith}
use lib.Dec.{eqb, ltb}
use borrow.Author.Tests.{lt-ltb, eqb-true, ne_eqb}
use Rattle.language.specs.Words.{Word, signs, reserved}
use Rattle.words.specs.Kinds.{numbered, spellings, kind_count}
use Rattle.hand.proofs.Chosen.{up_to, up_to_lem}
use Rattle.uses_law.specs.Uses.{Sort, a_name, changes, becomes, index, opens, closes, last, other, sort_of, State, from_calm, from_name, from_passing, next, held, onward, fits_name, fits_changed, fits, walk}
use Rattle.allow.specs.Steps.{sort_code, sort_at, state_at, ask_code, passed_code, next_code, asks}

-- ---- sorts

number_of : Sort → ℕ
number_of other = 0
number_of a_name = 1
number_of changes = 2
number_of becomes = 3
number_of index = 4
number_of opens = 5
number_of closes = 6
number_of last = 7

sort_back : (c : Sort) → sort_at (number_of c) ≡ c
unfolding sort_at number_of
sort_back other = refl
sort_back a_name = refl
sort_back changes = refl
sort_back becomes = refl
sort_back index = refl
sort_back opens = refl
sort_back closes = refl
sort_back last = refl

all_sorts : up_to (λ k. eqb (number_of (sort_of (numbered k))) (sort_code k)) kind_count ≡ true
unfolding up_to number_of sort_of numbered spellings signs reserved sort_code
all_sorts = refl

-- by computation over the kinds of words
pub sort_told : (k : ℕ) → k < kind_count → sort_of (numbered k) ≡ sort_at (sort_code k)
sort_told k h =
    let e = eqb-true (number_of (sort_of (numbered k))) (sort_code k) (up_to_lem (λ k. eqb (number_of (sort_of (numbered k))) (sort_code k)) kind_count k all_sorts h) in
    sym (sort_back (sort_of (numbered k))) ∙ ap sort_at e

-- a choice of two numbers that are low
low : (n : ℕ) (b : Bool) {x y : ℕ} → x ≤ n → y ≤ n → cond b x y ≤ n
low n true h g = h
low n false h g = g

pub sort_low : (k : ℕ) → sort_code k < 8
unfolding sort_code
sort_low k = let h : sort_code k ≤ 7 = low 7 (eqb k 0) (omega arith) (low 7 (eqb k 37) (omega arith) (low 7 (eqb k 38) (omega arith) (low 7 (eqb k 39) (omega arith) (low 7 (eqb k 8) (omega arith) (low 7 (eqb k 16) (omega arith) (low 7 (eqb k 14) (omega arith) (low 7 (eqb k 15) (omega arith) (low 7 (eqb k 57) (omega arith) (omega arith))))))))) in omega arith

-- ---- states

-- what holds of each sort's number
each_sort : (P : ℕ → Type 0) → P 0 → P 1 → P 2 → P 3 → P 4 → P 5 → P 6 → P 7 → (c : ℕ) → c < 8 → P c
each_sort P a b c d e f g i zero h = a
each_sort P a b c d e f g i (suc zero) h = b
each_sort P a b c d e f g i (suc (suc zero)) h = c
each_sort P a b c d e f g i (suc (suc (suc zero))) h = d
each_sort P a b c d e f g i (suc (suc (suc (suc zero)))) h = e
each_sort P a b c d e f g i (suc (suc (suc (suc (suc zero))))) h = f
each_sort P a b c d e f g i (suc (suc (suc (suc (suc (suc zero)))))) h = g
each_sort P a b c d e f g i (suc (suc (suc (suc (suc (suc (suc zero))))))) h = i
each_sort P a b c d e f g i (suc (suc (suc (suc (suc (suc (suc (suc n)))))))) h = absurd (omega arith)

-- a call's parentheses, and others open inside them
abbrev inside : ℕ → ℕ
inside d = suc (suc (suc (suc (suc d))))

deep-next : (d c : ℕ) → next_code (inside (suc d)) c ≡ cond (eqb c 5) (inside (suc (suc d))) (cond (eqb c 6) (inside d) (inside (suc d)))
unfolding next_code passed_code
deep-next d c =
    let more : inside (suc d) + 1 ≡ inside (suc (suc d)) = omega arith in
    let less : inside (suc d) - 1 ≡ inside d = omega arith in
    rw (lt-ltb 4 (inside (suc d)) (omega arith), ne_eqb (inside (suc d)) 5 (λ e. omega arith), more, less) refl

deep_ask : (d c : ℕ) → ask_code (inside d) c ≡ 0
unfolding ask_code
deep_ask d c = rw (ne_eqb (inside d) 1 (λ e. omega arith), ne_eqb (inside d) 4 (λ e. omega arith)) refl

pub next-told : (m c : ℕ) (y x : List ℕ) → c < 8 → state_at (next_code m c) x ≡ next (state_at m y) (sort_at c) x
unfolding state_at next_code passed_code next sort_at from_calm from_name from_passing
next-told zero c y x h = each_sort (λ c. state_at (next_code 0 c) x ≡ next (state_at 0 y) (sort_at c) x) refl refl refl refl refl refl refl refl c h
next-told (suc zero) c y x h = each_sort (λ c. state_at (next_code 1 c) x ≡ next (state_at 1 y) (sort_at c) x) refl refl refl refl refl refl refl refl c h
next-told (suc (suc zero)) c y x h = each_sort (λ c. state_at (next_code 2 c) x ≡ next (state_at 2 y) (sort_at c) x) refl refl refl refl refl refl refl refl c h
next-told (suc (suc (suc zero))) c y x h = each_sort (λ c. state_at (next_code 3 c) x ≡ next (state_at 3 y) (sort_at c) x) refl refl refl refl refl refl refl refl c h
next-told (suc (suc (suc (suc zero)))) c y x h = each_sort (λ c. state_at (next_code 4 c) x ≡ next (state_at 4 y) (sort_at c) x) refl refl refl refl refl refl refl refl c h
next-told (suc (suc (suc (suc (suc zero))))) c y x h = each_sort (λ c. state_at (next_code 5 c) x ≡ next (state_at 5 y) (sort_at c) x) refl refl refl refl refl refl refl refl c h
next-told (suc (suc (suc (suc (suc (suc d)))))) c y x h =
    ap (λ (n : ℕ). state_at n x) (deep-next d c)
    ∙ each_sort (λ c. state_at (cond (eqb c 5) (inside (suc (suc d))) (cond (eqb c 6) (inside d) (inside (suc d)))) x ≡ next (state_at (inside (suc d)) y) (sort_at c) x) refl refl refl refl refl refl refl refl c h

pub next_small : (m c p q : ℕ) → m ≤ p + 5 → p < q → next_code m c ≤ q + 5
unfolding next_code passed_code
next_small m c p q h g = low (q + 5) (ltb 4 m) (low (q + 5) (eqb c 5) (omega arith) (low (q + 5) (eqb c 6) (low (q + 5) (eqb m 5) (omega arith) (omega arith)) (omega arith))) (low (q + 5) (eqb m 2) (omega arith) (low (q + 5) (eqb m 3) (omega arith) (low (q + 5) (eqb c 1) (omega arith) (low (q + 5) (eqb c 2) (omega arith) (low (q + 5) (eqb m 1) (low (q + 5) (eqb c 5) (omega arith) (omega arith)) (omega arith))))))

module _ (p q : List ℕ → Bool) where
  pub ask_told : (m c : ℕ) (x : List ℕ) → c < 8 → fits p q (state_at m x) (sort_at c) ≡ asks p q (ask_code m c) x
  unfolding state_at ask_code fits fits_name fits_changed sort_at asks
  ask_told zero c x h = refl
  ask_told (suc zero) c x h = each_sort (λ c. fits p q (state_at 1 x) (sort_at c) ≡ asks p q (ask_code 1 c) x) refl refl refl refl refl refl refl refl c h
  ask_told (suc (suc zero)) c x h = refl
  ask_told (suc (suc (suc zero))) c x h = refl
  ask_told (suc (suc (suc (suc zero)))) c x h = each_sort (λ c. fits p q (state_at 4 x) (sort_at c) ≡ asks p q (ask_code 4 c) x) refl refl refl refl refl refl refl refl c h
  ask_told (suc (suc (suc (suc (suc d))))) c x h = rw (deep_ask d c) refl

  -- one word of the walk
  pub walk_on : (m c : ℕ) (x : List ℕ) (w : Word) (ws : List Word) → c < 8 → sort_of w.kind ≡ sort_at c
      → walk p q (state_at m x) (w ∷ ws) ≡ held (asks p q (ask_code m c) x) (onward (sort_at c) (walk p q (state_at (next_code m c) w.bytes) ws))
  unfolding walk
  walk_on m c x w ws h e =
      ap (λ (k : Sort). held (fits p q (state_at m x) k) (onward k (walk p q (next (state_at m x) k w.bytes) ws))) e
      ∙ ap (λ (b : Bool). held b (onward (sort_at c) (walk p q (next (state_at m x) (sort_at c) w.bytes) ws))) (ask_told m c x h)
      ∙ ap (λ (n : State). held (asks p q (ask_code m c) x) (onward (sort_at c) (walk p q n ws))) (sym (next-told m c x w.bytes h))

pub goes_on : (c : ℕ) (o : Option Bool) → c < 7 → onward (sort_at c) o ≡ o
unfolding onward sort_at
goes_on c o h = each_sort (λ c. c < 7 → onward (sort_at c) o ≡ o) (λ g. refl) (λ g. refl) (λ g. refl) (λ g. refl) (λ g. refl) (λ g. refl) (λ g. refl) (λ g. absurd (omega arith)) c (omega arith) h
