-- The rule of tries, bit by bit.
-- Assumes nothing.
use mathlib.Core.Path.{◌≡◌, refl, sym, ap, ◌∙◌}
use mathlib.Core.Bool.{Bool, true, false, not as opposite}
use mathlib.Core.Logic.{◌⊎◌, inl, inr, ◌↔◌}
use mathlib.Core.List.{List, [], ◌∷◌, Memᴰ}
use Prim.Native.Nat.{ℕ, ◌-◌, ◌*◌, ◌^◌, ◌<◌, ◌≤◌}
use native.Mathlib.Omega.{arith}
use borrow.Author.Tests.{ltb-true, ltb-false}
use lib.Bits.{bit_or}
use lib.Dec.{ltb}
use Rattle.meaning.specs.Tree.{and, or, Change, Target, Expr}
use Rattle.meaning.specs.Numbers.{Variable, input, boolean, integer, Reads, bit_of, low_bits, whole_of, combine, value}
use Rattle.meaning.specs.Tries.{Tries, no_tries, without, try_bit, changed, bit_at, change_tries, try_bits, assign_tries, all_ones, all_zeros, agreed, taken}
use Rattle.meaning.proofs.Bits.{bit_or_lem, bit-without, bit_shifted, bit_below, bit_past, bit_turned, no_bit}
use Rattle.meaning.proofs.LowBits.{low-lt}

-- ---- "a bit tried by one branch, or by several with one value, takes it; on disagreement it is untried"

-- bit j is tried with one, and with zero
abbrev pub TriesOne : Tries → ℕ → Type 0
TriesOne t j = bit_of t.ones j ≡ true

abbrev pub TriesZero : Tries → ℕ → Type 0
TriesZero t j = bit_of t.zeros j ≡ true

-- .. by some branch
abbrev pub SomeOne : List Tries → ℕ → Type 0
SomeOne ts j = (t : Tries) × Memᴰ t ts × TriesOne t j

abbrev pub SomeZero : List Tries → ℕ → Type 0
SomeZero ts j = (t : Tries) × Memᴰ t ts × TriesZero t j

or_true : (a b : Bool) → combine or a b ≡ true → (a ≡ true) ⊎ (b ≡ true)
or_true true b e = inl e
or_true false b e = inr e

or_left : (a b : Bool) → a ≡ true → combine or a b ≡ true
or_left a b e = rw e

or_right : (a b : Bool) → b ≡ true → combine or a b ≡ true
or_right true b e = refl
or_right false b e = e

not_both : {b : Bool} → b ≡ true → b ≡ false → ⊥
not_both e f = let z : true ≡ false = sym e ∙ f in let y : ◌≡◌ {A = ℕ} 0 1 = cc in omega arith

none_of : (b : Bool) → (b ≡ true → ⊥) → b ≡ false
none_of true n = absurd (n refl)
none_of false n = refl

-- the union of the branches' masks, of ones or of zeros
module _
    (mask : Tries → ℕ)
    (all : List Tries → ℕ)
    (empty : all [] ≡ 0)
    (more : (t : Tries) (ts : List Tries) → all (t ∷ ts) ≡ bit_or (mask t) (all ts))
  where
    all-bit : (t : Tries) (ts : List Tries) (j : ℕ) → bit_of (all (t ∷ ts)) j ≡ combine or (bit_of (mask t) j) (bit_of (all ts) j)
    all-bit t ts j = ap (λ (x : ℕ). bit_of x j) (more t ts) ∙ bit_or_lem (mask t) (all ts) j

    from_some : (ts : List Tries) (j : ℕ) (t : Tries) → Memᴰ t ts → bit_of (mask t) j ≡ true → bit_of (all ts) j ≡ true
    from_some (x ∷ ts) j t (Memᴰ.head e) h =
        all-bit x ts j ∙ or_left _ _ (ap (λ (y : Tries). bit_of (mask y) j) (sym e) ∙ h)
    from_some (x ∷ ts) j t (Memᴰ.tail m) h = all-bit x ts j ∙ or_right (bit_of (mask x) j) _ (from_some ts j t m h)
    from_some [] j t x'' h = elim x'' [ ]

    to_some : (ts : List Tries) (j : ℕ) → bit_of (all ts) j ≡ true → (t : Tries) × Memᴰ t ts × (bit_of (mask t) j ≡ true)
    to_some [] j e = absurd (not_both e (ap (λ (x : ℕ). bit_of x j) empty ∙ no_bit j))
    to_some (t ∷ ts) j e = put (or_true _ _ (sym (all-bit t ts j) ∙ e)) (to_some ts j)
      where
        put : (bit_of (mask t) j ≡ true) ⊎ (bit_of (all ts) j ≡ true)
            → (bit_of (all ts) j ≡ true → (u : Tries) × Memᴰ u ts × (bit_of (mask u) j ≡ true))
            → (u : Tries) × Memᴰ u (t ∷ ts) × (bit_of (mask u) j ≡ true)
        put (inl h) f = (t, Memᴰ.head refl, h)
        put (inr h) f = let (u, m, k) = f h in (u, Memᴰ.tail m, k)

some_one : (ts : List Tries) (j : ℕ) → (bit_of (all_ones ts) j ≡ true) ↔ SomeOne ts j
unfolding all_ones
some_one ts j =
    (to_some (λ t. t.ones) all_ones refl (λ t u. refl) ts j, λ s. from_some (λ t. t.ones) all_ones refl (λ t u. refl) ts j s.0 s.1 s.2)

some-zero : (ts : List Tries) (j : ℕ) → (bit_of (all_zeros ts) j ≡ true) ↔ SomeZero ts j
unfolding all_zeros
some-zero ts j =
    (to_some (λ t. t.zeros) all_zeros refl (λ t u. refl) ts j, λ s. from_some (λ t. t.zeros) all_zeros refl (λ t u. refl) ts j s.0 s.1 s.2)

-- a bit that is in one mask and not in the other
both_of : (a b : Bool) → combine and a (opposite b) ≡ true → (a ≡ true) × (b ≡ true → ⊥)
both_of true true e = absurd (not_both e refl)
both_of true false e = (refl, λ q. not_both q refl)
both_of false b e = absurd (not_both e refl)

of_both : (a b : Bool) → a ≡ true → (b ≡ true → ⊥) → combine and a (opposite b) ≡ true
of_both a true e n = absurd (n refl)
of_both a false e n = rw e

only_in : (a b j : ℕ) → (bit_of (without a b) j ≡ true) ↔ ((bit_of a j ≡ true) × (bit_of b j ≡ true → ⊥))
only_in a b j =
    (λ e. both_of _ _ (sym (bit-without a b j) ∙ e), λ p. bit-without a b j ∙ of_both _ _ p.0 p.1)

pub agreed-one : (ts : List Tries) (j : ℕ) → TriesOne (agreed ts) j ↔ (SomeOne ts j × (SomeZero ts j → ⊥))
agreed-one ts j = (
  λ e. let (a, b) = (only_in (all_ones ts) (all_zeros ts) j).0 e in ((some_one ts j).0 a, λ z. b ((some-zero ts j).1 z)),
  λ p. (only_in (all_ones ts) (all_zeros ts) j).1 ((some_one ts j).1 p.0, λ z. p.1 ((some-zero ts j).0 z)),
)

pub agreed-zero : (ts : List Tries) (j : ℕ) → TriesZero (agreed ts) j ↔ (SomeZero ts j × (SomeOne ts j → ⊥))
agreed-zero ts j = (
  λ e. let (a, b) = (only_in (all_zeros ts) (all_ones ts) j).0 e in ((some-zero ts j).0 a, λ z. b ((some_one ts j).1 z)),
  λ p. (only_in (all_zeros ts) (all_ones ts) j).1 ((some-zero ts j).1 p.0, λ z. p.1 ((some_one ts j).0 z)),
)

-- ---- no bit is tried with both values

abbrev pub Apart : Tries → Type 0
Apart t = (j : ℕ) → TriesOne t j → TriesZero t j → ⊥

pub none_apart : Apart no_tries
none_apart j e f = not_both e (no_bit j)

pub agreed-apart : (ts : List Tries) → Apart (agreed ts)
agreed-apart ts j e f = ((agreed-one ts j).0 e).1 ((agreed-zero ts j).0 f).0

pub bit-apart : (j : ℕ) (b : Bool) → Apart (try_bit j b)
bit-apart k true j e f = not_both f (no_bit j)
bit-apart k false j e f = not_both e (no_bit j)

-- "raise", "lower", "invert"
pub change-apart : (c : Change) (t : Target Variable) (r : Reads) → Apart (change_tries c t r)
change-apart c t r = bit-apart (bit_at t) (changed c (bit_of r.word (bit_at t)))

-- ---- "`:=` tries every bit"

pub bits-apart : (low width v : ℕ) → v < 2 ^ width → Apart (try_bits low width v)
bits-apart low width v h j e f = by (ltb j low) (ltb (j - low) width) refl refl
  where
    -- bit j of u from `low` on
    there : (u : ℕ) → low ≤ j → bit_of (u * 2 ^ low) j ≡ bit_of u (j - low)
    there u k = ap (bit_of (u * 2 ^ low)) (omega arith) ∙ bit_shifted u low (j - low)

    by : (s t : Bool) → ltb j low ≡ s → ltb (j - low) width ≡ t → ⊥
    by true t p q = not_both e (bit_below v low j (ltb-true j low p))
    by false true p q =
        let k : low ≤ j = ltb-false j low p in
        not_both f
        (there (2 ^ width - 1 - v) k
        ∙ bit_turned v width (j - low) h (ltb-true (j - low) width q)
        ∙ ap opposite (sym (there v k) ∙ e))
    by false false p q =
        not_both e (there v (ltb-false j low p) ∙ bit_past v width (j - low) h (ltb-false (j - low) width q))

pub assign-apart : (v : Variable) (e : Expr Variable) (r : Reads) → Apart (assign_tries v e r)
assign-apart (input i) e r = none_apart
assign-apart (boolean j) e r = none_apart
assign-apart (integer low width) e r = bits-apart low width (low_bits width (whole_of (value e r))) (low-lt width (whole_of (value e r)))

-- ---- the values after the clock

taken-bit : (t : Tries) (word j : ℕ)
    → bit_of (taken t word) j ≡ combine and (combine or (bit_of word j) (bit_of t.ones j)) (opposite (bit_of t.zeros j))
taken-bit t word j =
    bit-without (bit_or word t.ones) t.zeros j
    ∙ ap (λ (x : Bool). combine and x (opposite (bit_of t.zeros j))) (bit_or_lem word t.ones j)

and_of : (a b : Bool) → a ≡ true → b ≡ false → combine and a (opposite b) ≡ true
and_of a b e f = rw (e, f)

and_none : (a b : Bool) → b ≡ true → combine and a (opposite b) ≡ false
and_none true b e = rw e
and_none false b e = refl

and_as : (a b c : Bool) → b ≡ false → c ≡ false → combine and (combine or a b) (opposite c) ≡ a
and_as true b c e f = rw f
and_as false b c e f = rw e

pub taken-one : (t : Tries) (word j : ℕ) → Apart t → TriesOne t j → bit_of (taken t word) j ≡ true
taken-one t word j a e = taken-bit t word j ∙ and_of _ _ (or_right (bit_of word j) _ e) (none_of (bit_of t.zeros j) (a j e))

pub taken-zero : (t : Tries) (word j : ℕ) → TriesZero t j → bit_of (taken t word) j ≡ false
taken-zero t word j e = taken-bit t word j ∙ and_none (combine or (bit_of word j) (bit_of t.ones j)) _ e

-- "a bit .. untried" keeps its value
pub taken_not : (t : Tries) (word j : ℕ) → bit_of t.ones j ≡ false → bit_of t.zeros j ≡ false → bit_of (taken t word) j ≡ bit_of word j
taken_not t word j e f = taken-bit t word j ∙ and_as (bit_of word j) _ _ e f

-- ---- .. and after a parallel: what its branches try decides each bit

pub taken_with_one : (ts : List Tries) (word j : ℕ) → SomeOne ts j → (SomeZero ts j → ⊥) → bit_of (taken (agreed ts) word) j ≡ true
taken_with_one ts word j a n = taken-one (agreed ts) word j (agreed-apart ts) ((agreed-one ts j).1 (a, n))

pub taken_with_zero : (ts : List Tries) (word j : ℕ) → SomeZero ts j → (SomeOne ts j → ⊥) → bit_of (taken (agreed ts) word) j ≡ false
taken_with_zero ts word j a n = taken-zero (agreed ts) word j ((agreed-zero ts j).1 (a, n))

-- "on disagreement it is untried"
pub disagreed_stays : (ts : List Tries) (word j : ℕ) → SomeOne ts j → SomeZero ts j → bit_of (taken (agreed ts) word) j ≡ bit_of word j
disagreed_stays ts word j a b =
    taken_not (agreed ts) word j
    (none_of (bit_of (agreed ts).ones j) (λ e. ((agreed-one ts j).0 e).1 b))
    (none_of (bit_of (agreed ts).zeros j) (λ e. ((agreed-zero ts j).0 e).1 a))

pub untried_stays : (ts : List Tries) (word j : ℕ) → (SomeOne ts j → ⊥) → (SomeZero ts j → ⊥) → bit_of (taken (agreed ts) word) j ≡ bit_of word j
untried_stays ts word j a b =
    taken_not (agreed ts) word j
    (none_of (bit_of (agreed ts).ones j) (λ e. a ((agreed-one ts j).0 e).0))
    (none_of (bit_of (agreed ts).zeros j) (λ e. b ((agreed-zero ts j).0 e).0))
