-- What a word is to activities, by the number of its kind.
-- Assumes nothing.
use mathlib.Core.Bool.{Bool, true, false, cond}
use mathlib.Core.Path.{◌≡◌, refl, sym, ◌∙◌, ap}
use Prim.Native.Nat.{ℕ, zero, suc, ◌+◌, ◌-◌, ◌≤◌, ◌<◌, max}
use native.Mathlib.Omega.{arith}
use native.Mathlib.Decide.{ℕ_discrete}
use lib.Dec.{eqb, ltb}
use borrow.Author.Tests.{eqb-true, eqb-false, eq-eqb, ne_eqb, ltb-true, ltb-false}
use mathlib.Core.List.{List}
use Rattle.ll1.proofs.Sets.{clash}
use Rattle.language.specs.Words.{signs, reserved}
use Rattle.words.specs.Kinds.{numbered, spellings, kind_count}
use Rattle.hand.proofs.Chosen.{up_to, up_to_lem}
use Rattle.wides_law.specs.Wides.{Sort, a_name, opens, closes, comma, begins, parts, ends, last, other, sort_of, calling, seen, from_calling, next, Acts, at_close, step}
use Rattle.wides_law.proofs.Walked.{harmless}
use Rattle.wides.specs.Fill.{ends_list, calls_by, closes_by, open_by, begun_by}

unfoldable pub sort_by : ℕ → Sort
sort_by k =
    cond (eqb k 0) a_name
    (cond (eqb k 14) opens
    (cond (eqb k 15) closes
    (cond (eqb k 13) comma
    (cond (eqb k 54) begins
    (cond (eqb k 2) parts
    (cond (eqb k 55) ends
    (cond (eqb k 57) last other)))))))

-- ---- by computation over the kinds of words

number_of : Sort → ℕ
number_of other = 0
number_of a_name = 1
number_of opens = 2
number_of closes = 3
number_of comma = 4
number_of begins = 5
number_of parts = 6
number_of ends = 7
number_of last = 8

sort_at : ℕ → Sort
sort_at zero = other
sort_at (suc zero) = a_name
sort_at (suc (suc zero)) = opens
sort_at (suc (suc (suc zero))) = closes
sort_at (suc (suc (suc (suc zero)))) = comma
sort_at (suc (suc (suc (suc (suc zero))))) = begins
sort_at (suc (suc (suc (suc (suc (suc zero)))))) = parts
sort_at (suc (suc (suc (suc (suc (suc (suc zero))))))) = ends
sort_at (suc (suc (suc (suc (suc (suc (suc (suc c)))))))) = last

sort_back : (c : Sort) → sort_at (number_of c) ≡ c
unfolding sort_at number_of
sort_back other = refl
sort_back a_name = refl
sort_back opens = refl
sort_back closes = refl
sort_back comma = refl
sort_back begins = refl
sort_back parts = refl
sort_back ends = refl
sort_back last = refl

all_sorts : up_to (λ k. eqb (number_of (sort_of (numbered k))) (number_of (sort_by k))) kind_count ≡ true
unfolding up_to number_of sort_of numbered spellings signs reserved sort_by
all_sorts = refl

pub sort_told : (k : ℕ) → k < kind_count → sort_of (numbered k) ≡ sort_by k
sort_told k h =
    let e = eqb-true (number_of (sort_of (numbered k))) (number_of (sort_by k)) (up_to_lem (λ k. eqb (number_of (sort_of (numbered k))) (number_of (sort_by k))) kind_count k all_sorts h) in
    sym (sort_back (sort_of (numbered k))) ∙ ap sort_at e ∙ sort_back (sort_by k)

-- ---- one number

module _ {k : ℕ} where
  pub is_name_lem : k ≡ 0 → sort_by k ≡ a_name
  unfolding sort_by
  is_name_lem e = rw e refl

  pub is_opens : k ≡ 14 → sort_by k ≡ opens
  unfolding sort_by
  is_opens e = rw e refl

  pub is_closes : k ≡ 15 → sort_by k ≡ closes
  unfolding sort_by
  is_closes e = rw e refl

  pub is_begins : k ≡ 54 → sort_by k ≡ begins
  unfolding sort_by
  is_begins e = rw e refl

  pub is_parts : k ≡ 2 → sort_by k ≡ parts
  unfolding sort_by
  is_parts e = rw e refl

  pub is_ends : k ≡ 55 → sort_by k ≡ ends
  unfolding sort_by
  is_ends e = rw e refl

  pub is_last : k ≡ 57 → sort_by k ≡ last
  unfolding sort_by
  is_last e = rw e refl

  pub is_harmless : ¬ (k ≡ 14) → harmless (sort_by k) ≡ true
  unfolding sort_by harmless
  is_harmless h = rw (ne_eqb k 14 h) (go (eqb k 0) (eqb k 15) (eqb k 13) (eqb k 54) (eqb k 2) (eqb k 55) (eqb k 57))
    where
      go : (a b c d e f g : Bool) → harmless (cond a a_name (cond b closes (cond c comma (cond d begins (cond e parts (cond f ends (cond g last other))))))) ≡ true
      go true b c d e f g = refl
      go false true c d e f g = refl
      go false false true d e f g = refl
      go false false false true e f g = refl
      go false false false false true f g = refl
      go false false false false false true g = refl
      go false false false false false false true = refl
      go false false false false false false false = refl

-- ---- a word that ends no list

pub record Within (k : ℕ) : Type 0 where
  pub known : k < kind_count
  pub not_parts : ¬ (k ≡ 2)
  pub not_ends : ¬ (k ≡ 55)
  pub not_last : ¬ (k ≡ 57)

pub within : (k : ℕ) → ends_list k ≡ false → Within k
unfolding ends_list
within k e = go (eqb k 2) refl (eqb k 55) refl (eqb k 57) refl (ltb 62 k) refl e
  where
    go : (a : Bool) → eqb k 2 ≡ a → (b : Bool) → eqb k 55 ≡ b → (c : Bool) → eqb k 57 ≡ c → (d : Bool) → ltb 62 k ≡ d → cond a true (cond b true (cond c true d)) ≡ false → Within k
    go true p b q c r d t e = clash e
    go false p true q c r d t e = clash e
    go false p false q true r d t e = clash e
    go false p false q false r true t e = clash e
    go false p false q false r false t e = record { known = omega (arith, ltb-false 62 k t); not_parts = eqb-false k 2 p; not_ends = eqb-false k 55 q; not_last = eqb-false k 57 r }

-- one that does, and is none of the three words, is the end of the words
pub past_end : (k : ℕ) → ends_list k ≡ true → ¬ (k ≡ 2) → ¬ (k ≡ 55) → ¬ (k ≡ 57) → 62 < k
unfolding ends_list
past_end k e h g i = ltb-true 62 k (rw (ne_eqb k 2 h, ne_eqb k 55 g, ne_eqb k 57 i) at e)

-- one that does not matter where no call is open
quiet : Sort → Bool
quiet a_name = false
quiet opens = true
quiet closes = true
quiet comma = true
quiet begins = false
quiet parts = false
quiet ends = false
quiet last = false
quiet other = true

is_quiet : {k : ℕ} → Within k → ¬ (k ≡ 0) → ¬ (k ≡ 54) → quiet (sort_by k) ≡ true
unfolding sort_by quiet
is_quiet {k} w h g = rw (ne_eqb k 0 h, ne_eqb k 54 g, ne_eqb k 2 w.not_parts, ne_eqb k 55 w.not_ends, ne_eqb k 57 w.not_last) (go (eqb k 14) (eqb k 15) (eqb k 13))
  where
    go : (a b c : Bool) → quiet (cond a opens (cond b closes (cond c comma other))) ≡ true
    go true b c = refl
    go false true c = refl
    go false false true = refl
    go false false false = refl

-- what holds of each such word
pub each_quiet : {k : ℕ} (P : Sort → Type 0) → P opens → P closes → P comma → P other → Within k → ¬ (k ≡ 0) → ¬ (k ≡ 54) → P (sort_by k)
unfolding quiet
each_quiet {k} P a b c d w h g = go (sort_by k) (is_quiet w h g)
  where
    go : (x : Sort) → quiet x ≡ true → P x
    go a_name e = clash (sym e)
    go opens e = a
    go closes e = b
    go comma e = c
    go begins e = clash (sym e)
    go parts e = clash (sym e)
    go ends e = clash (sym e)
    go last e = clash (sym e)
    go other e = d

-- ---- a call

pub record Calls (k j : ℕ) : Type 0 where
  pub name : k ≡ 0
  pub opens : j ≡ 14

pub calls_are : {k j : ℕ} → calls_by k j ≡ true → Calls k j
unfolding calls_by
calls_are {k} {j} e = go (eqb k 0) refl (eqb j 14) refl e
  where
    go : (a : Bool) → eqb k 0 ≡ a → (b : Bool) → eqb j 14 ≡ b → cond a b false ≡ true → Calls k j
    go true p true q e = record { name = eqb-true k 0 p; opens = eqb-true j 14 q }
    go true p false q e = clash (sym e)
    go false p b q e = clash (sym e)

pub calls_not : {k j : ℕ} → calls_by k j ≡ false → k ≡ 0 → ¬ (j ≡ 14)
unfolding calls_by
calls_not {k} {j} e h g = clash (rw (eq-eqb k 0 h, eq-eqb j 14 g) at e)

pub record Closes (k d : ℕ) : Type 0 where
  pub kind : k ≡ 15
  pub last : d ≡ 0

pub closes_are : {k d : ℕ} → closes_by k d ≡ true → Closes k d
unfolding closes_by
closes_are {k} {d} e = go (eqb k 15) refl (eqb d 0) refl e
  where
    go : (a : Bool) → eqb k 15 ≡ a → (b : Bool) → eqb d 0 ≡ b → cond a b false ≡ true → Closes k d
    go true p true q e = record { kind = eqb-true k 15 p; last = eqb-true d 0 q }
    go true p false q e = clash (sym e)
    go false p b q e = clash (sym e)

some-seen : (c : ℕ) → seen c ≡ max 1 c
unfolding seen
some-seen zero = refl
some-seen (suc c) = omega arith

low : {n : ℕ} (b : Bool) {x y : ℕ} → x ≤ n → y ≤ n → cond b x y ≤ n
low true h g = h
low false h g = g

pub open_low : (k d : ℕ) → open_by k d ≤ d + 1
unfolding open_by
open_low k d = low (eqb k 14) (omega arith) (low (eqb k 15) (omega arith) (omega arith))

pub begun-low : (k d c : ℕ) → begun_by k d c ≤ c + 1
unfolding begun_by
begun-low k d c = low (eqb k 13) (low (eqb d 0) (omega arith) (omega arith)) (omega arith)

module _ (wide_of : List ℕ → ℕ → ℕ) (y x : List ℕ) (a : Acts) where
  -- the state behind a word in the parentheses of a call that does not close them
  pub record Inside (k d c : ℕ) : Type 0 where
    pub state : next (calling y d c) (sort_by k) x ≡ calling y (open_by k d) (begun_by k d c)
    pub acts : step wide_of (calling y d c) (sort_by k) a ≡ a

  inside-opens : (d c : ℕ) → Inside 14 d c
  unfolding next from_calling sort_by open_by begun_by step
  inside-opens d c = record { state = rw (some-seen c, more) refl; acts = refl }
    where
      more : suc d ≡ d + 1
      more = omega arith

  inside-closes : (d c : ℕ) → closes_by 15 d ≡ false → Inside 15 d c
  unfolding next from_calling sort_by open_by begun_by step at_close closes_by
  inside-closes zero c e = clash e
  inside-closes (suc d) c e = record { state = rw (some-seen c, less) refl; acts = refl }
    where
      less : suc d - 1 ≡ d
      less = omega arith

  inside-comma : (d c : ℕ) → Inside 13 d c
  unfolding next from_calling sort_by open_by begun_by step
  inside-comma zero c = record { state = rw more refl; acts = refl }
    where
      more : suc c ≡ c + 1
      more = omega arith
  inside-comma (suc d) c = record { state = rw (some-seen c, ne_eqb (suc d) 0 (λ e. omega arith)) refl; acts = refl }

  inside-other : (k d c : ℕ) → ¬ (k ≡ 14) → ¬ (k ≡ 15) → ¬ (k ≡ 13) → Inside k d c
  unfolding next from_calling sort_by open_by begun_by step
  inside-other k d c h g i =
      let (e, f) = go (eqb k 0) (eqb k 54) (eqb k 2) (eqb k 55) (eqb k 57) in
      record { state = rw (ne_eqb k 14 h, ne_eqb k 15 g, ne_eqb k 13 i, ← some-seen c) e; acts = rw (ne_eqb k 14 h, ne_eqb k 15 g, ne_eqb k 13 i) f }
    where
      go : (z p q r t : Bool)
          → (next (calling y d c) (cond z a_name (cond p begins (cond q parts (cond r ends (cond t last other))))) x ≡ calling y d (seen c))
          × (step wide_of (calling y d c) (cond z a_name (cond p begins (cond q parts (cond r ends (cond t last other))))) a ≡ a)
      go true p q r t = (refl, refl)
      go false true q r t = (refl, refl)
      go false false true r t = (refl, refl)
      go false false false true t = (refl, refl)
      go false false false false true = (refl, refl)
      go false false false false false = (refl, refl)

  pub inside : (k d c : ℕ) → closes_by k d ≡ false → Inside k d c
  inside k d c e = go (ℕ_discrete k 14) (ℕ_discrete k 15) (ℕ_discrete k 13)
    where
      go : Dec (k ≡ 14) → Dec (k ≡ 15) → Dec (k ≡ 13) → Inside k d c
      go (yes p) q r = rw p (inside-opens d c)
      go (no p) (yes q) r = rw q (inside-closes d c (rw q at e))
      go (no p) (no q) (yes r) = rw r (inside-comma d c)
      go (no p) (no q) (no r) = inside-other k d c p q r
