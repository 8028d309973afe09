-- Decimal digits: a number's own, no number's begin another's and a byte that is no digit, and what a number's digits begin with.
-- Assumes nothing.
use mathlib.Core.Path.{◌≡◌, refl, sym, ap, ap₂, ◌∙◌}
use mathlib.Core.List.{List, [], ◌∷◌, ◌++◌, head-eq_of_cons-eq, tail-eq_of_cons-eq}
use Prim.Native.Nat.{ℕ, zero, suc, ◌+◌, ◌-◌, ◌*◌, ◌/◌, ◌%◌, ◌^◌, ◌≤◌, ◌<◌}
use native.Mathlib.Nat.{pow-succ'}
use native.Mathlib.Omega.{arith}
use native.Mathlib.Decide.{dec_lt}
use lib.ListN.{length, length-append}
use borrow.Author.Tests.{lt-ltb, le-ltb}
use Rattle.kiss_law.specs.Text.{decimal_by, decimal}

-- ---- how the digits are made

pub few : (f n : ℕ) → n < 10 → decimal_by (suc f) n ≡ (48 + n) ∷ []
unfolding decimal_by
few f n h = simp (lt-ltb n 10 h)

pub many : (f n : ℕ) → 10 ≤ n → decimal_by (suc f) n ≡ decimal_by f (n / 10) ++ ((48 + n % 10) ∷ [])
unfolding decimal_by
many f n h = simp (le-ltb n 10 h)

-- room for more digits than there are changes nothing
pub fuel : (f n : ℕ) → n < 10 ^ suc f → decimal_by (suc (suc f)) n ≡ decimal_by (suc f) n
fuel zero n h = few 1 n h ∙ sym (few 0 n h)
fuel (suc f) n h = at (dec_lt n 10) (fuel f (n / 10) (omega (arith, pow-succ' 10 (suc f))))
  where
    at : Dec (n < 10) → decimal_by (suc (suc f)) (n / 10) ≡ decimal_by (suc f) (n / 10) → decimal_by (suc (suc (suc f))) n ≡ decimal_by (suc (suc f)) n
    at (yes l) e = few (suc (suc f)) n l ∙ sym (few (suc f) n l)
    at (no l) e = many (suc (suc f)) n (omega arith) ∙ ap (λ (s : List ℕ). s ++ ((48 + n % 10) ∷ [])) e ∙ sym (many (suc f) n (omega arith))

-- one digit more
pub decimal-more : (v d : ℕ) → 1 ≤ v → d < 10 → 10 * v + d < 100000 → decimal (10 * v + d) ≡ decimal v ++ ((48 + d) ∷ [])
decimal-more v d h l b =
    let q : (10 * v + d) / 10 ≡ v = omega arith in
    let r : (10 * v + d) % 10 ≡ d = omega arith in
    many 4 (10 * v + d) (omega arith)
    ∙ ap₂ (λ (x y : ℕ). decimal_by 4 x ++ ((48 + y) ∷ [])) q r
    ∙ ap (λ (s : List ℕ). s ++ ((48 + d) ∷ [])) (sym (fuel 3 v (omega arith)))

pub length-decimal : (f n : ℕ) → length (decimal_by f n) ≤ f
unfolding decimal_by
length-decimal zero n = omega arith
length-decimal (suc f) n = at (dec_lt n 10) (length-decimal f (n / 10))
  where
    at : Dec (n < 10) → length (decimal_by f (n / 10)) ≤ f → length (decimal_by (suc f) n) ≤ suc f
    at (yes l) h = rw (few f n l) (omega arith)
    at (no l) h = rw (many f n (omega arith), length-append) (omega arith)

-- ---- they are digits

abbrev pub Digits : List ℕ → Type 0
Digits [] = Unit {0}
Digits (b ∷ l) = (48 ≤ b) × (b ≤ 57) × Digits l

digits_append : (l m : List ℕ) → Digits l → Digits m → Digits (l ++ m)
digits_append [] m p q = q
digits_append (b ∷ l) m p q = (p.0, p.1, digits_append l m p.2 q)

pub digits_decimal : (f n : ℕ) → Digits (decimal_by f n)
unfolding decimal_by
digits_decimal zero n = tt
digits_decimal (suc f) n = at (dec_lt n 10) (digits_decimal f (n / 10))
  where
    at : Dec (n < 10) → Digits (decimal_by f (n / 10)) → Digits (decimal_by (suc f) n)
    at (yes l) d = rw (few f n l) (omega arith, omega arith, tt)
    at (no l) d = rw (many f n (omega arith)) (digits_append (decimal_by f (n / 10)) ((48 + n % 10) ∷ []) d (omega arith, omega arith, tt))

-- digits up to a byte that is none
pub digits_split : {c : ℕ} → c < 48 → (l m y z : List ℕ) → Digits l → Digits m → l ++ (c ∷ y) ≡ m ++ (c ∷ z) → l ≡ m
digits_split h [] [] y z p q e = refl
digits_split h [] (b ∷ m) y z p q e = let s = head-eq_of_cons-eq e in absurd (omega (arith, q.0))
digits_split h (a ∷ l) [] y z p q e = let s = head-eq_of_cons-eq e in absurd (omega (arith, p.0))
digits_split h (a ∷ l) (b ∷ m) y z p q e =
    ap₂ (λ (x : ℕ) (s : List ℕ). x ∷ s) (head-eq_of_cons-eq e) (digits_split h l m y z p.2 q.2 (tail-eq_of_cons-eq e))

-- ---- the number that digits come to

unfoldable pub value : ℕ → List ℕ → ℕ
value v [] = v
value v (b ∷ l) = value (10 * v + (b - 48)) l

value-append : (v : ℕ) (l m : List ℕ) → value v (l ++ m) ≡ value (value v l) m
unfolding value
value-append v [] m = refl
value-append v (b ∷ l) m = value-append (10 * v + (b - 48)) l m

value_grows : (v : ℕ) (l : List ℕ) → v ≤ value v l
unfolding value
value_grows v [] = omega arith
value_grows v (b ∷ l) = omega (arith, value_grows (10 * v + (b - 48)) l)

pub value-decimal : (f n : ℕ) → n < 10 ^ f → value 0 (decimal_by f n) ≡ n
unfolding value decimal_by
value-decimal zero n h = omega arith
value-decimal (suc f) n h = at (dec_lt n 10) (value-decimal f (n / 10) (omega (arith, pow-succ' 10 f)))
  where
    at : Dec (n < 10) → value 0 (decimal_by f (n / 10)) ≡ n / 10 → value 0 (decimal_by (suc f) n) ≡ n
    at (yes l) e = ap (value 0) (few f n l) ∙ omega arith
    at (no l) e =
        ap (value 0) (many f n (omega arith)) ∙ value-append 0 (decimal_by f (n / 10)) ((48 + n % 10) ∷ [])
        ∙ ap (λ (v : ℕ). 10 * v + (48 + n % 10 - 48)) e ∙ omega arith

-- two numbers whose digits a byte ends that is none
pub decimal_code : {c : ℕ} → c < 48 → (v w : ℕ) (y z : List ℕ) → v < 100000 → w < 100000 → decimal v ++ (c ∷ y) ≡ decimal w ++ (c ∷ z) → v ≡ w
decimal_code h v w y z hv hw e =
    sym (value-decimal 5 v hv)
    ∙ ap (value 0) (digits_split h (decimal v) (decimal w) y z (digits_decimal 5 v) (digits_decimal 5 w) e)
    ∙ value-decimal 5 w hw

-- ---- what the digits of a number begin with

-- only 0 begins with 0
lead : (f n : ℕ) → 1 ≤ n → n < 10 ^ f → (b : ℕ) × (l : List ℕ) × (49 ≤ b) × (decimal_by f n ≡ b ∷ l)
lead zero n p h = absurd (omega arith)
lead (suc f) n p h = at (dec_lt n 10) (lead f (n / 10))
  where
    at : Dec (n < 10) → (1 ≤ n / 10 → n / 10 < 10 ^ f → (b : ℕ) × (l : List ℕ) × (49 ≤ b) × (decimal_by f (n / 10) ≡ b ∷ l))
        → (b : ℕ) × (l : List ℕ) × (49 ≤ b) × (decimal_by (suc f) n ≡ b ∷ l)
    at (yes l) ih = (48 + n, [], omega arith, few f n l)
    at (no l) ih =
        let r = ih (omega arith) (omega (arith, pow-succ' 10 f)) in
        (r.0, r.1 ++ ((48 + n % 10) ∷ []), r.2, many f n (omega arith) ∙ ap (λ (s : List ℕ). s ++ ((48 + n % 10) ∷ [])) r.3)

-- the digits of a number v and one more, d, begin the digits of a: v is not 0, and 10 v + d is at most a
pub decimal-begins : (a v d : ℕ) (m : List ℕ) → a < 100000 → v < 100000 → decimal a ≡ decimal v ++ ((48 + d) ∷ m) → (1 ≤ v) × (10 * v + d ≤ a)
unfolding value
decimal-begins a v d m ha hv e = (above (dec_lt v 1), least)
  where
    least : 10 * v + d ≤ a
    least =
        let s : value 0 (decimal a) ≡ value (10 * v + (48 + d - 48)) m =
        ap (value 0) e ∙ value-append 0 (decimal v) ((48 + d) ∷ m) ∙ ap (λ (x : ℕ). value (10 * x + (48 + d - 48)) m) (value-decimal 5 v hv) in
        omega (arith, value-decimal 5 a ha, value_grows (10 * v + (48 + d - 48)) m)

    nought : v ≡ 0 → decimal a ≡ 48 ∷ (48 + d) ∷ m
    nought z = e ∙ ap (λ (x : ℕ). decimal x ++ ((48 + d) ∷ m)) z ∙ ap (λ (s : List ℕ). s ++ ((48 + d) ∷ m)) (few 4 0 (omega arith))

    from : v ≡ 0 → Dec (a < 1) → ⊥
    from z (yes l) =
        let y : a ≡ 0 = omega arith in
        let s = ap length (sym (few 4 0 (omega arith)) ∙ ap decimal (sym y) ∙ nought z) in
        omega arith
    from z (no l) =
        let r = lead 5 a (omega arith) ha in
        let s : r.0 ≡ 48 = head-eq_of_cons-eq (sym r.3 ∙ nought z) in
        omega (arith, r.2)

    above : Dec (v < 1) → 1 ≤ v
    above (yes l) = absurd (from (omega arith) (dec_lt a 1))
    above (no l) = omega arith

pub length_some : (f n : ℕ) → 1 ≤ length (decimal_by (suc f) n)
length_some f n = at (dec_lt n 10)
  where
    at : Dec (n < 10) → 1 ≤ length (decimal_by (suc f) n)
    at (yes l) = rw (few f n l) (omega arith)
    at (no l) = rw (many f n (omega arith), length-append) (omega arith)

-- the first digit of a number
pub first-digit : (a b : ℕ) (z : List ℕ) → a < 100000 → decimal a ++ (32 ∷ []) ≡ b ∷ z → (48 ≤ b) × (b ≤ 57) × (b - 48 ≤ a)
unfolding value
first-digit a b z h e = at (decimal a) (digits_decimal 5 a) (value-decimal 5 a h) (length_some 4 a) e
  where
    at : (l : List ℕ) → Digits l → value 0 l ≡ a → 1 ≤ length l → l ++ (32 ∷ []) ≡ b ∷ z → (48 ≤ b) × (b ≤ 57) × (b - 48 ≤ a)
    at [] d v p s = absurd (omega arith)
    at (c ∷ l) d v p s =
        let q : c ≡ b = head-eq_of_cons-eq s in
        let w : b - 48 ≤ a = omega (arith, value_grows (10 * 0 + (c - 48)) l) in
        (omega (arith, d.0), omega (arith, d.1), w)

-- digits that go on with a byte that is no blank, where other digits and a blank stand: that byte is the next of them
pub digits_on : (b : ℕ) (l m z : List ℕ) → ¬ (b ≡ 32) → Digits l → Digits m → l ++ (b ∷ z) ≡ m ++ (32 ∷ []) → (48 ≤ b) × (b ≤ 57) × ((t : List ℕ) × (m ≡ l ++ (b ∷ t)))
digits_on b [] [] z h p q e = absurd (h (head-eq_of_cons-eq e))
digits_on b [] (c ∷ m) z h p q e =
    let s : b ≡ c = head-eq_of_cons-eq e in
    (omega (arith, q.0), omega (arith, q.1), (m, ap (λ (x : ℕ). x ∷ m) (sym s)))
digits_on b (a ∷ l) [] z h p q e = let s = head-eq_of_cons-eq e in absurd (omega (arith, p.0))
digits_on b (a ∷ l) (c ∷ m) z h p q e =
    let r = digits_on b l m z h p.2 q.2 (tail-eq_of_cons-eq e) in
    (r.0, r.1, (r.2.0, ap₂ (λ (x : ℕ) (s : List ℕ). x ∷ s) (sym (head-eq_of_cons-eq e)) r.2.1))
