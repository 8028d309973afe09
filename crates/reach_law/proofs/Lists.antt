-- Laws on lists in which no element stands twice, and on the places of their elements.
-- Assumes nothing.
use mathlib.Core.Path.{◌≡◌, refl, ap, sym, ◌∙◌}
use mathlib.Core.Logic.{◌⊎◌, inl, inr}
use mathlib.Core.List.Memᴰ
use mathlib.Core.List.{List, [], ◌∷◌, ◌++◌, Memᴰ}
use Prim.Native.Nat.{ℕ, zero, suc, ◌<◌, ◌≤◌}
use lib.ListN.{length, get_or, take, length-append}
use lib.Seq.{length-take-le, get_or-take}
use native.Mathlib.Omega.{arith}
use Rattle.reach_law.specs.Count.{Apart}

module _ {A : Type 0} where
  -- a member splits its list
  split : {a : A} {l : List A} → Memᴰ a l → (p : List A) × (q : List A) × (l ≡ p ++ (a ∷ q))
  split (Memᴰ.head {xs = xs} e) = ([], xs, ap (λ (y : A). y ∷ xs) (sym e))
  split (Memᴰ.tail {x = x} m) = let (p, q, e) = split m in (x ∷ p, q, ap (λ (l : List A). x ∷ l) e)

  -- a member of the whole that is not the one in the middle is a member of the rest
  without : {a b : A} (p q : List A) → ¬ (b ≡ a) → Memᴰ b (p ++ (a ∷ q)) → Memᴰ b (p ++ q)
  without {a} {b} p q ne m = go (Memᴰ.append_cases p m)
    where
      tail : (b ≡ a) ⊎ Memᴰ b q → Memᴰ b (p ++ q)
      tail (inl e) = absurd (ne e)
      tail (inr h) = Memᴰ.append_right p h

      go : Memᴰ b p ⊎ Memᴰ b (a ∷ q) → Memᴰ b (p ++ q)
      go (inl h) = Memᴰ.append_left q h
      go (inr h) = tail (Memᴰ.cases_cons h)

  -- a list without repetition is no longer than one that has all its elements
  pub no_longer : (l m : List A) → Apart l → ((a : A) → Memᴰ a l → Memᴰ a m) → length l ≤ length m
  no_longer [] m uniq sub = omega arith
  no_longer (a ∷ l) m uniq sub =
      let (p, q, e) = split (sub a (Memᴰ.head refl)) in
      let inner : (b : A) → Memᴰ b l → Memᴰ b (p ++ q) =
      λ b h. without p q (λ eq. uniq.0 (Memᴰ.cast (sym eq) h)) (rw e at (sub b (Memᴰ.tail h))) in
      let ih : length l ≤ length (p ++ q) = no_longer l (p ++ q) uniq.1 inner in
      omega (arith, simp length-append at ih, simp length-append at (ap length e))

  pub apart_snoc : (l : List A) (a : A) → Apart l → ¬ Memᴰ a l → Apart (l ++ (a ∷ []))
  apart_snoc [] a uniq new = (Memᴰ.not-nil, tt)
  apart_snoc (b ∷ l) a uniq new = (λ m. go (Memᴰ.append_cases l m), apart_snoc l a uniq.1 (λ m. new (Memᴰ.tail m)))
    where
      go : Memᴰ b l ⊎ Memᴰ b (a ∷ []) → ⊥
      go (inl h) = uniq.0 h
      go (inr h) = new (Memᴰ.head (sym (Memᴰ.eq_of_singleton h)))

  -- ---- places

  pub get_or_mem : (l : List A) (i : ℕ) (d : A) → i < length l → Memᴰ (get_or l i d) l
  get_or_mem [] i d h = absurd (omega arith)
  get_or_mem (a ∷ l) zero d h = Memᴰ.head refl
  get_or_mem (a ∷ l) (suc i) d h = Memᴰ.tail (get_or_mem l i d (omega arith))

  pub mem_get_or : (d : A) {a : A} {l : List A} → Memᴰ a l → (i : ℕ) × (i < length l) × (get_or l i d ≡ a)
  mem_get_or d (Memᴰ.head e) = (zero, omega arith, sym e)
  mem_get_or d (Memᴰ.tail m) = let (i, h, e) = mem_get_or d m in (suc i, omega arith, e)

  -- in a list without repetition two places with one element are one place
  pub one_place : (l : List A) (i j : ℕ) (d : A) → Apart l → i < length l → j < length l → get_or l i d ≡ get_or l j d → i ≡ j
  one_place [] i j d uniq h k e = absurd (omega arith)
  one_place (a ∷ l) zero zero d uniq h k e = refl
  one_place (a ∷ l) zero (suc j) d uniq h k e = absurd (uniq.0 (Memᴰ.cast e (get_or_mem l j d (omega arith))))
  one_place (a ∷ l) (suc i) zero d uniq h k e = absurd (uniq.0 (Memᴰ.cast (sym e) (get_or_mem l i d (omega arith))))
  one_place (a ∷ l) (suc i) (suc j) d uniq h k e = ap suc (one_place l i j d uniq.1 (omega arith) (omega arith) e)

  -- .. so an element is none of those before it
  pub not_before : (l : List A) (j : ℕ) (d : A) → Apart l → j < length l → ¬ Memᴰ (get_or l j d) (take j l)
  not_before l j d uniq h m =
      let (i, k, e) = mem_get_or d m in
      let low : i < j = omega (arith, length-take-le j l (omega arith)) in
      let one : i ≡ j = one_place l i j d uniq (omega arith) h (sym (get_or-take j l i d low) ∙ e) in
      omega arith
