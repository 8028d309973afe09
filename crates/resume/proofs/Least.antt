-- The least number where an activity stands, and what it says of where they stand.
use mathlib.Core.Path.{◌≡◌, refl, sym, ap, ◌∙◌}
use mathlib.Core.Bool.{Bool, true, false, cond}
use mathlib.Core.List.{List, [], ◌∷◌, map}
use Prim.Native.Nat.{ℕ, zero, suc, ◌+◌, ◌-◌, ◌<◌, ◌≤◌}
use native.Mathlib.Omega.{arith}
use lib.Dec.{leb, ltb, eqb}
use lib.ListN.{take, drop}
use lib.Seq.{take-take, drop-drop}
use borrow.Author.Tests.{lt-ltb, le-ltb, lt-leb, le-leb, eq-eqb, ne_eqb, ltb-true, ltb-false, leb-true, leb-false, eqb-true, eqb-false}
use Rattle.meaning.specs.Clock.{Entry, nowhere, at, is_at, some_at}
use Rattle.runs.specs.declared.Entry as code
use Rattle.runs.specs.Run.{entry_from, window, least, least_from, least_of, closer}

-- ---- one more activity

of_ge : (x : Entry) (i m : ℕ) → i ≤ m → i ≤ least_of x i m
of_ge nowhere i m h = h
of_ge (at n k) i m h = by (leb i n) refl (ltb n m)
  where
    by : (p : Bool) → leb i n ≡ p → (q : Bool) → i ≤ closer (cond (leb i n) q false) n m
    by true e true = rw e (leb-true i n e)
    by true e false = rw e h
    by false e q = rw e h

pub least_ge : (es : List Entry) (i : ℕ) → i ≤ 65535 → i ≤ least es i
unfolding least_from
least_ge [] i h = h
least_ge (x ∷ xs) i h = of_ge x i (least xs i) (least_ge xs i h)

of_at : (x : Entry) (i m : ℕ) → i ≤ m → is_at i x ≡ true → least_of x i m ≡ i
of_at nowhere i m h e = absurd (let z : ◌≡◌ {A = ℕ} 0 1 = cc in omega arith)
of_at (at n k) i m h e = by (ltb n m) refl
  where
    same : i ≡ n
    same = eqb-true i n e

    by : (q : Bool) → ltb n m ≡ q → closer (cond (leb i n) (ltb n m) false) n m ≡ i
    by true f = rw (le-leb i n (omega (arith, same)), f) (sym same)
    by false f = rw (le-leb i n (omega (arith, same)), f) (omega (arith, same, ltb-false n m f))

of_same : (x : Entry) (i : ℕ) → least_of x i i ≡ i
of_same nowhere i = refl
of_same (at n k) i = by (leb i n) refl
  where
    by : (p : Bool) → leb i n ≡ p → closer (cond (leb i n) (ltb n i) false) n i ≡ i
    by true e = rw (e, le-ltb n i (leb-true i n e))
    by false e = rw e

pub least_at_lem : (es : List Entry) (i : ℕ) → i ≤ 65535 → some_at i es ≡ true → least es i ≡ i
unfolding least_from some_at
least_at_lem [] i h e = absurd (let z : ◌≡◌ {A = ℕ} 0 1 = cc in omega arith)
least_at_lem (x ∷ xs) i h e = by x (is_at i x) refl (some_at i xs) refl e (least_at_lem xs i h) (least_ge xs i h)
  where
    by : (x : Entry) (p : Bool) → is_at i x ≡ p → (q : Bool) → some_at i xs ≡ q → cond (is_at i x) true (some_at i xs) ≡ true
        → (some_at i xs ≡ true → least xs i ≡ i) → i ≤ least xs i → least_of x i (least xs i) ≡ i
    by x true f q g e k l = of_at x i (least xs i) l f
    by x false f true g e k l = rw (k g) (of_same x i)
    by x false f false g e k l = absurd (let z : ◌≡◌ {A = Bool} false true = rw (f, g) at e in let y : ◌≡◌ {A = ℕ} 0 1 = cc in omega arith)

of_next : (x : Entry) (i m : ℕ) → is_at i x ≡ false → least_of x (i + 1) m ≡ least_of x i m
of_next nowhere i m e = refl
of_next (at n k) i m e = by (leb i n) refl
  where
    other : i ≡ n → ⊥
    other = eqb-false i n e

    by : (p : Bool) → leb i n ≡ p → closer (cond (leb (i + 1) n) (ltb n m) false) n m ≡ closer (cond (leb i n) (ltb n m) false) n m
    by true f = rw (f, le-leb (i + 1) n (omega (arith, leb-true i n f, other)))
    by false f = rw (f, lt-leb (i + 1) n (omega (arith, leb-false i n f)))

pub least-next : (es : List Entry) (i : ℕ) → some_at i es ≡ false → least es (i + 1) ≡ least es i
unfolding least_from some_at
least-next [] i e = refl
least-next (x ∷ xs) i e = by (is_at i x) refl e (least-next xs i)
  where
    by : (p : Bool) → is_at i x ≡ p → cond (is_at i x) true (some_at i xs) ≡ false → (some_at i xs ≡ false → least xs (i + 1) ≡ least xs i)
        → least_of x (i + 1) (least xs (i + 1)) ≡ least_of x i (least xs i)
    by true f e k = absurd (let z : ◌≡◌ {A = Bool} true false = rw f at e in let y : ◌≡◌ {A = ℕ} 0 1 = cc in omega arith)
    by false f e k = rw (k (rw f at e)) (of_next x i (least xs i) f)

of_skip_lem : (x : Entry) (i j m : ℕ) → i ≤ j → j ≤ least_of x i m → (j ≤ m) × (least_of x j m ≡ least_of x i m)
of_skip_lem nowhere i j m h k = (k, refl)
of_skip_lem (at n l) i j m h k = by (leb i n) refl (ltb n m) refl k
  where
    by : (p : Bool) → leb i n ≡ p → (q : Bool) → ltb n m ≡ q → j ≤ closer (cond (leb i n) (ltb n m) false) n m
        → (j ≤ m) × (closer (cond (leb j n) (ltb n m) false) n m ≡ closer (cond (leb i n) (ltb n m) false) n m)
    by true e true f k =
        let a : j ≤ n = rw (e, f) at k in
        (omega (arith, ltb-true n m f), rw (e, f, le-leb j n a))
    by true e false f k = (rw (e, f) at k, rw (e, f) (both (leb j n)))
      where
        both : (p : Bool) → closer (cond p false false) n m ≡ m
        both true = refl
        both false = refl
    by false e q f k = (rw e at k, rw (e, lt-leb j n (omega (arith, leb-false i n e))))

pub least_skip : (es : List Entry) (i j : ℕ) → i ≤ j → j ≤ least es i → least es j ≡ least es i
unfolding least_from
least_skip [] i j h k = refl
least_skip (x ∷ xs) i j h k =
    let s = of_skip_lem x i j (least xs i) h k in
    rw (least_skip xs i j h s.0) s.1

-- ---- ranges of numbers

module _ (es : List Entry) (i e : ℕ) (small : i ≤ 65535) where
  pub none_in : e ≤ i → ltb (least es i) e ≡ false
  none_in h = le-ltb (least es i) e (omega (arith, least_ge es i small))

  pub at_or_after : i < e → ltb (least es i) e ≡ cond (some_at i es) true (ltb (least es (i + 1)) e)
  at_or_after h = by (some_at i es) refl
    where
      by : (p : Bool) → some_at i es ≡ p → ltb (least es i) e ≡ cond (some_at i es) true (ltb (least es (i + 1)) e)
      by true f = rw (f, least_at_lem es i small f) (lt-ltb i e h)
      by false f = rw (f, least-next es i f)

  pub in_two : (k : ℕ) → i ≤ k → k ≤ e → ltb (least es i) e ≡ cond (ltb (least es i) k) true (ltb (least es k) e)
  in_two k h l = by (ltb (least es i) k) refl
    where
      by : (p : Bool) → ltb (least es i) k ≡ p → ltb (least es i) e ≡ cond (ltb (least es i) k) true (ltb (least es k) e)
      by true f = rw f (lt-ltb (least es i) e (omega (arith, ltb-true (least es i) k f)))
      by false f = rw (f, least_skip es i k h (ltb-false (least es i) k f))

-- m is the least from i on
pub some_at_lem : (es : List Entry) (i m : ℕ) → i < 65535 → m ≡ least es i → some_at i es ≡ eqb m i
some_at_lem es i m small q = by (some_at i es) refl
  where
    by : (p : Bool) → some_at i es ≡ p → some_at i es ≡ eqb m i
    by true f = rw (f, q, least_at_lem es i (omega arith) f) (sym (eq_self i))
      where
        eq_self : (n : ℕ) → eqb n n ≡ true
        eq_self n = eq-eqb n n refl
    by false f = rw (f, q) (sym (ne_eqb (least es i) i (λ z. absurd (omega (arith, z, least-next es i f, least_ge es (i + 1) (omega arith))))))

-- ---- windows

pub take-map : (w : ℕ) (l : List code.Entry) → take w (map entry_from l) ≡ map entry_from (take w l)
take-map zero l = refl
take-map (suc w) [] = refl
take-map (suc w) (x ∷ l) = ap (λ (y : List Entry). entry_from x ∷ y) (take-map w l)

pub drop-map : (w : ℕ) (l : List code.Entry) → drop w (map entry_from l) ≡ map entry_from (drop w l)
drop-map zero l = refl
drop-map (suc w) [] = refl
drop-map (suc w) (x ∷ l) = drop-map w l

taken_none : (k : ℕ) (l : List code.Entry) → k ≡ 0 → [] ≡ take k l
taken_none k l e = rw e

taken-empty : (k : ℕ) → ◌≡◌ {A = List code.Entry} [] (take k [])
taken-empty zero = refl
taken-empty (suc k) = refl

drop-take : (m n : ℕ) (l : List code.Entry) → drop m (take n l) ≡ take (n - m) (drop m l)
drop-take zero n l = ap (λ (k : ℕ). take k l) {x = n} {y = n - zero} (omega arith)
drop-take (suc m) zero l = taken_none (zero - suc m) (drop (suc m) l) (omega arith)
drop-take (suc m) (suc n) [] = taken-empty (suc n - suc m)
drop-take (suc m) (suc n) (x ∷ l) = drop-take m n l ∙ ap (λ (k : ℕ). take k (drop m l)) {x = n - m} {y = suc n - suc m} (omega arith)

pub window-take : (old : List code.Entry) (b w n : ℕ) → n ≤ w → take n (window old b w) ≡ window old b n
window-take old b w n h = take-map n (take w (drop b old)) ∙ ap (map entry_from) (take-take n w (drop b old) h)

pub window-drop : (old : List code.Entry) (b w n : ℕ) → drop n (window old b w) ≡ window old (b + n) (w - n)
window-drop old b w n = drop-map n (take w (drop b old)) ∙ ap (map entry_from) (drop-take n w (drop b old) ∙ ap (take (w - n)) (drop-drop n b old))
