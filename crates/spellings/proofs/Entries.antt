-- The small tables of spellings: one computed test gives what each entry says, and what stands for no entry.
-- Assumes nothing.
use mathlib.Core.Bool.{Bool, true, not, ◌&&◌}
use mathlib.Core.Path.{◌≡◌, refl, sym, ◌∙◌, ap}
use mathlib.Core.List.{List}
use Prim.Native.Nat.{ℕ, zero, suc, ◌+◌, ◌-◌, ◌<◌, ◌≤◌}
use native.Mathlib.Omega.{arith}
use lib.Dec.{eqb, leb, ltb}
use lib.ListN.{length, get_or}
use borrow.Author.Tests.{ne_eqb, eqb-true, leb-true, ltb-true}
use Rattle.ll1.proofs.Sets.{and_left, and_right}
use Rattle.file_law.specs.Answer.{every, first_not}
use Rattle.language.specs.Words.{bytes, signs, reserved}
use Rattle.spellings.specs.Spelled.{spellings, spelling, sign_count, spelling_count}
use Rattle.spellings.specs.Search.{Lists, FirstSigns, opening, like_from, reserved_by}
use Rattle.spellings.proofs.Tested.{each}

-- one test at each entry
abbrev pub tells : (ℕ → ℕ) → List ℕ → ℕ → Bool
tells f t i = eqb (get_or t i 0) (f i)

pub listed : {f : ℕ → ℕ} {n : ℕ} {t : List ℕ} → length t ≡ n → every (tells f t) n 0 ≡ true → Lists f n t
listed {f} {n} {t} l e = record { long = l; told = λ i h. eqb-true (get_or t i 0) (f i) (each (tells f t) n e i h) }

-- .. of a table of signs by their first byte
abbrev pub opens_at : ℕ → List ℕ → ℕ → Bool
opens_at low t i = eqb (get_or t i 0) (like_from (low + i) sign_count 0)

pub first-signs : {low : ℕ} {t : List ℕ} (n : ℕ) → length t ≡ n → every (opens_at low t) n 0 ≡ true → FirstSigns low t
first-signs {low} {t} n l e = record { told = λ i h. eqb-true (get_or t i 0) (like_from (low + i) sign_count 0) (each (opens_at low t) n e i (omega (arith, l))) }

-- ---- no spelling begins with a byte

none-like : (c n k : ℕ) → ((j : ℕ) → j < n → ¬ (opening (k + j) ≡ c)) → first_not (λ j. not (eqb (opening j) c)) n k ≡ k + n
unfolding first_not
none-like c zero k h = omega arith
none-like c (suc n) k h =
    let z : k + 0 ≡ k = omega arith in
    rw (ne_eqb (opening k) c (λ e. h 0 (omega arith) (ap opening z ∙ e)))
    (none-like c n (suc k) (λ j l e. h (suc j) (omega arith) (ap opening (more j) ∙ e)) ∙ omega arith)
  where
    more : (j : ℕ) → k + suc j ≡ suc k + j
    more j = omega arith

-- the n spellings from low on begin with bytes from a on and below b
abbrev pub ranged : ℕ → ℕ → ℕ → ℕ → Bool
ranged a b low j = leb a (opening (low + j)) && ltb (opening (low + j)) b

module _ (a b low n : ℕ) (all : every (ranged a b low) n 0 ≡ true) (c : ℕ) where
  at_least : (j : ℕ) → j < n → a ≤ opening (low + j)
  at_least j h = leb-true a (opening (low + j)) (and_left (leb a (opening (low + j))) _ (each (ranged a b low) n all j h))

  less : (j : ℕ) → j < n → opening (low + j) < b
  less j h = ltb-true (opening (low + j)) b (and_right (leb a (opening (low + j))) _ (each (ranged a b low) n all j h))

  none : ((j : ℕ) → j < n → ¬ (opening (low + j) ≡ c)) → low + n ≡ like_from c (low + n) low
  unfolding like_from
  none h = let z : low + n - low ≡ n = omega arith in rw z (sym (none-like c n low h))

  pub below : c < a → low + n ≡ like_from c (low + n) low
  below h = none (λ j l e. omega (arith, at_least j l, e))

  pub above : b ≤ c → low + n ≡ like_from c (low + n) low
  above h = none (λ j l e. omega (arith, less j l, e))

-- ---- the first spelling with a byte

sign_range : every (ranged 32 128 0) sign_count 0 ≡ true
unfolding every opening spelling spellings bytes signs reserved
sign_range = refl

reserved_range : every (ranged 97 123 sign_count) 37 0 ≡ true
unfolding every opening spelling spellings bytes signs reserved
reserved_range = refl

module _ (c : ℕ) where
  pub sign_low : c < 32 → sign_count ≡ like_from c sign_count 0
  sign_low = below 32 128 0 sign_count sign_range c

  pub sign_high : 128 ≤ c → sign_count ≡ like_from c sign_count 0
  sign_high = above 32 128 0 sign_count sign_range c

  pub reserved-low : c < 97 → spelling_count ≡ like_from c spelling_count sign_count
  reserved-low = below 97 123 sign_count 37 reserved_range c

  pub reserved-high : 123 ≤ c → spelling_count ≡ like_from c spelling_count sign_count
  reserved-high = above 97 123 sign_count 37 reserved_range c

  pub reserved_by_lem : 97 ≤ c → reserved_by (c - 97) ≡ like_from c spelling_count sign_count
  unfolding reserved_by
  reserved_by_lem h = ap (λ (x : ℕ). like_from x spelling_count sign_count) (omega arith)
