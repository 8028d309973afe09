-- How a search goes from one spelling to the next that begins with the same byte: what it leaves out does not fit.
-- Assumes nothing.
use mathlib.Core.Bool.{Bool, true, false, not}
use mathlib.Core.Path.{◌≡◌, refl, sym, ◌∙◌, ap}
use Prim.Native.Nat.{ℕ, zero, suc, ◌+◌, ◌-◌, ◌<◌, ◌≤◌}
use native.Mathlib.Decide.{dec_le, dec_lt}
use native.Mathlib.Omega.{arith}
use lib.Dec.{eqb}
use borrow.Author.Tests.{lt-ltb, le-ltb, eq-eqb, eqb-true, not-false}
use Rattle.ll1.proofs.Sets.{clash}
use Rattle.file_law.specs.Answer.{unless, first_not}
use Rattle.file_law.proofs.Every.{stops, goes, ends}
use Rattle.std.specs.Prelude.{Some, None}
use Rattle.spellings.specs.Search.{opening, like_from, found}

pub not_before : (p : ℕ → Bool) (n i : ℕ) → i ≤ first_not p n i
unfolding first_not
not_before p zero i = omega arith
not_before p (suc n) i = go (p i) (not_before p n (suc i))
  where
    go : (b : Bool) → suc i ≤ first_not p n (suc i) → i ≤ unless b i (first_not p n (suc i))
    go true h = omega arith
    go false h = omega arith

-- the first number that fails is one of them or the number after them, and fails if it is one of them
module _ (q : ℕ → Bool) where
  not_behind : (n i : ℕ) → first_not q n i ≤ i + n
  unfolding first_not
  not_behind zero i = omega arith
  not_behind (suc n) i = go (q i) (not_behind n (suc i))
    where
      go : (b : Bool) → first_not q n (suc i) ≤ suc i + n → unless b i (first_not q n (suc i)) ≤ i + suc n
      go true h = omega arith
      go false h = omega arith

  first_fails : (n i : ℕ) → first_not q n i < i + n → q (first_not q n i) ≡ false
  unfolding first_not
  first_fails zero i h = absurd (omega arith)
  first_fails (suc n) i h = go (q i) refl (first_fails n (suc i)) h
    where
      go : (b : Bool) → q i ≡ b → (first_not q n (suc i) < suc i + n → q (first_not q n (suc i)) ≡ false) → unless b i (first_not q n (suc i)) < i + suc n → q (unless b i (first_not q n (suc i))) ≡ false
      go true e more h = more (omega arith)
      go false e more h = e

-- what begins with another byte may be left out
module _ (p q : ℕ → Bool) (low last : ℕ) (skip : (j : ℕ) → low ≤ j → j < last → q j ≡ true → p j ≡ true) where
  leaves : (n i : ℕ) → low ≤ i → i + n ≡ last → first_not p n i ≡ first_not p (last - first_not q n i) (first_not q n i)
  unfolding first_not
  leaves zero i l e = let z : last - i ≡ 0 = omega arith in rw z
  leaves (suc n) i l e = go (q i) refl (leaves n (suc i) (omega arith) (omega arith))
    where
      go : (b : Bool) → q i ≡ b → first_not p n (suc i) ≡ first_not p (last - first_not q n (suc i)) (first_not q n (suc i))
          → unless (p i) i (first_not p n (suc i)) ≡ first_not p (last - unless b i (first_not q n (suc i))) (unless b i (first_not q n (suc i)))
      go true f more = rw (skip i l (omega arith) f) more
      go false f more = let z : last - i ≡ suc n = omega arith in rw z

-- where a search for n stands that looks only at spellings that begin with c
pub record Along (p : ℕ → Bool) (c low last n k : ℕ) : Type 0 where
  pub above : low ≤ k
  pub within : k ≤ last
  pub first : first_not p (last - k) k ≡ n
  pub opens : k < last → opening k ≡ c

module _ (p : ℕ → Bool) (c low last : ℕ) (skip : (j : ℕ) → low ≤ j → j < last → ¬ (opening j ≡ c) → p j ≡ true) where
  other : ℕ → Bool
  other j = not (eqb (opening j) c)

  other-skips : (j : ℕ) → low ≤ j → j < last → other j ≡ true → p j ≡ true
  unfolding other
  other-skips j l h e = skip j l h (λ f. clash (sym e ∙ ap not (eq-eqb (opening j) c f)))

  from : (n i r : ℕ) → low ≤ i → i ≤ last → first_not p (last - i) i ≡ n → r ≡ like_from c last i → Along p c low last n r
  unfolding like_from other
  from n i r l h f q =
      record {
        above = omega (arith, q, not_before other (last - i) i);
        within = omega (arith, q, not_behind other (last - i) i);
        first = rw q (sym (leaves p other low last other-skips (last - i) i l (omega arith)) ∙ f);
        opens = λ g. eqb-true (opening r) c (not-false (eqb (opening r) c) (ap other q ∙ first_fails other (last - i) i (omega (arith, q, g))));
      }

  pub along_start : (r : ℕ) → low ≤ last → r ≡ like_from c last low → Along p c low last (first_not p (last - low) low) r
  along_start r h q = from (first_not p (last - low) low) low r (omega arith) h refl q

  module _ {n k : ℕ} (x : Along p c low last n k) where
    pub along_here : k < last → p k ≡ false → k ≡ n
    along_here h e = sym (stops p last k h e) ∙ x.first

    pub along_over : last ≤ k → k ≡ n
    along_over h = sym (ends p last k h) ∙ x.first

    module _ (r : ℕ) (h : k < last) (q : r ≡ like_from (opening k) last (k + 1)) where
      pub along_on : p k ≡ true → Along p c low last n r
      along_on e = from n (k + 1) r (omega (arith, x.above)) (omega arith) (sym (goes p last k h e) ∙ x.first) (q ∙ ap (λ (d : ℕ). like_from d last (k + 1)) (x.opens h))

      pub along_falls : last - r < last - k
      unfolding like_from
      along_falls = omega (arith, q, not_before (λ j. not (eqb (opening j) (opening k))) (last - (k + 1)) (k + 1))

-- ---- what a search came to

module _ {end k n : ℕ} where
  pub found_below : k ≡ n → k < end → Some k ≡ found end n
  found_below q h = let g : n < end = omega arith in rw (lt-ltb n end g, q)

  pub found_number : Some k ≡ found end n → (k < end) × (k ≡ n)
  found_number q = go (dec_lt n end) q
    where
      go : Dec (n < end) → Some k ≡ found end n → (k < end) × (k ≡ n)
      go (yes h) q = let e : k ≡ n = cc (rw (lt-ltb n end h) at q) in (omega arith, e)
      go (no h) q = let e : end ≤ n = omega arith in cc (rw (le-ltb n end e) at q)

module _ {end n : ℕ} where
  pub found_past : end ≤ n → None ≡ found end n
  found_past h = rw (le-ltb n end h)

  pub found_not : None ≡ found end n → end ≤ n
  found_not q = go (dec_le end n) q
    where
      go : Dec (end ≤ n) → None ≡ found end n → end ≤ n
      go (yes h) q = h
      go (no h) q = let e : n < end = omega arith in cc (rw (lt-ltb n end e) at q)
