-- Sets of next words as lists, and what a row begins with.
-- Assumes nothing.
use mathlib.Core.Bool.{Bool, true, false, true≢false, ◌&&◌}
use mathlib.Core.Path.{◌≡◌, refl, sym, ap}
use mathlib.Core.Logic.{◌⊎◌, inl, inr}
use mathlib.Core.List.{List, [], ◌∷◌, ◌++◌}
use mathlib.Core.Option.{Option, none, some}
use Rattle.ll1.specs.Grammar.{word, part, In, Out, Row}
use Rattle.ll1.proofs.Tests.{◌implies◌, Claims, same_next, has, within, apart, firsts, empty_row, begin_row}

pub clash : {A : Type 0} → Path Bool true false → A
clash e = absurd (true≢false e)

pub and_left : (a b : Bool) → a && b ≡ true → a ≡ true
and_left true b e = refl
and_left false b e = clash (sym e)

pub and_right : (a b : Bool) → a && b ≡ true → b ≡ true
and_right true b e = e
and_right false b e = clash (sym e)

module _ {K P : Type 0} (C : Claims K P) where
  same_next_lem : (x y : Option K) → same_next C x y ≡ true → x ≡ y
  same_next_lem none none e = refl
  same_next_lem none (some y) e = clash (sym e)
  same_next_lem (some x) none e = clash (sym e)
  same_next_lem (some x) (some y) e = ap {B = Option K} some (C.same_true x y e)

  next_self : (x : Option K) → same_next C x x ≡ true
  next_self none = refl
  next_self (some x) = C.same_self x

  pub has_self : (x : Option K) (l : List (Option K)) → has C (x ∷ l) x ≡ true
  unfolding has
  has_self x l = rw (next_self x, has)

  pub has_left : (a b : List (Option K)) (x : Option K) → has C a x ≡ true → has C (a ++ b) x ≡ true
  unfolding has
  has_left [] b x e = clash (sym e)
  has_left (y ∷ a) b x e = go (same_next C y x) (has_left a b x) e
    where
      go : (t : Bool) → (has C a x ≡ true → has C (a ++ b) x ≡ true) → elim t [ true ↦ true | false ↦ has C a x ] ≡ true → elim t [ true ↦ true | false ↦ has C (a ++ b) x ] ≡ true
      go true h e = refl
      go false h e = h e

  pub has_right : (a b : List (Option K)) (x : Option K) → has C b x ≡ true → has C (a ++ b) x ≡ true
  unfolding has
  has_right [] b x e = e
  has_right (y ∷ a) b x e = go (same_next C y x) (has_right a b x e)
    where
      go : (t : Bool) → has C (a ++ b) x ≡ true → elim t [ true ↦ true | false ↦ has C (a ++ b) x ] ≡ true
      go true h = refl
      go false h = h

  pub has_cases : (a b : List (Option K)) (x : Option K) → has C (a ++ b) x ≡ true → (has C a x ≡ true) ⊎ (has C b x ≡ true)
  unfolding has
  has_cases [] b x e = inr e
  has_cases (y ∷ a) b x e = go (same_next C y x) (has_cases a b x) e
    where
      go : (t : Bool) → (has C (a ++ b) x ≡ true → (has C a x ≡ true) ⊎ (has C b x ≡ true)) → elim t [ true ↦ true | false ↦ has C (a ++ b) x ] ≡ true
          → (elim t [ true ↦ true | false ↦ has C a x ] ≡ true) ⊎ (has C b x ≡ true)
      go true h e = inl refl
      go false h e = h e

  pub within_has : (a b : List (Option K)) (x : Option K) → within C a b ≡ true → has C a x ≡ true → has C b x ≡ true
  unfolding has within
  within_has [] b x w e = clash (sym e)
  within_has (y ∷ a) b x w e = go (same_next C y x) refl (within_has a b x (and_right (has C b y) (within C a b) w)) e
    where
      go : (t : Bool) → same_next C y x ≡ t → (has C a x ≡ true → has C b x ≡ true) → elim t [ true ↦ true | false ↦ has C a x ] ≡ true → has C b x ≡ true
      go true q h f = rw (same_next_lem y x q) at (and_left (has C b y) (within C a b) w)
      go false q h f = h f

  pub apart_not : (a b : List (Option K)) (x : Option K) → apart C a b ≡ true → has C b x ≡ true → has C a x ≡ false
  unfolding apart has
  apart_not [] b x f h = refl
  apart_not (y ∷ a) b x f h = go (same_next C y x) refl (apart_not a b x (and_right (has C b y implies false) (apart C a b) f) h)
    where
      none_of : (u : Bool) → u ≡ true → u implies false ≡ true → Path Bool true false
      none_of true q e = sym e
      none_of false q e = sym q

      go : (u : Bool) → same_next C y x ≡ u → has C a x ≡ false → elim u [ true ↦ true | false ↦ has C a x ] ≡ false
      go false q k = k
      go true q k = none_of (has C b y) (rw (same_next_lem y x q) h) (and_left (has C b y implies false) (apart C a b) f)

  -- a row after a row
  pub begin_append : (z : List (Option K)) (p r : Row K P) → begin_row C z (p ++ r) ≡ begin_row C (begin_row C z r) p
  unfolding begin_row
  begin_append z [] r = refl
  begin_append z (word t ∷ p) r = refl
  begin_append z (part n ∷ p) r = ap (λ (l : List (Option K)). firsts C n ++ elim (C.empty n) [ true ↦ l | false ↦ [] ]) (begin_append z p r)
  begin_append z (In ∷ p) r = begin_append z p r
  begin_append z (Out ∷ p) r = begin_append z p r

  -- more after a row, more that it may begin with
  pub begin_mono : (y z : List (Option K)) (p : Row K P) (x : Option K) → (has C y x ≡ true → has C z x ≡ true) → has C (begin_row C y p) x ≡ true → has C (begin_row C z p) x ≡ true
  unfolding begin_row
  begin_mono y z [] x h e = h e
  begin_mono y z (word t ∷ p) x h e = e
  begin_mono y z (part n ∷ p) x h e = go (C.empty n) (begin_mono y z p x h) e
    where
      F : List (Option K)
      F = firsts C n

      go : (t : Bool) → (has C (begin_row C y p) x ≡ true → has C (begin_row C z p) x ≡ true)
          → has C (F ++ elim t [ true ↦ begin_row C y p | false ↦ [] ]) x ≡ true → has C (F ++ elim t [ true ↦ begin_row C z p | false ↦ [] ]) x ≡ true
      go false k e = e
      go true k e = two (has_cases F (begin_row C y p) x e)
        where
          two : (has C F x ≡ true) ⊎ (has C (begin_row C y p) x ≡ true) → has C (F ++ begin_row C z p) x ≡ true
          two (inl f) = has_left F (begin_row C z p) x f
          two (inr f) = has_right F (begin_row C z p) x (k f)
  begin_mono y z (In ∷ p) x h e = begin_mono y z p x h e
  begin_mono y z (Out ∷ p) x h e = begin_mono y z p x h e

  -- what a row begins with is its own, or the row can be empty
  pub begin_cases : (z : List (Option K)) (p : Row K P) (x : Option K) → has C (begin_row C z p) x ≡ true → (has C (begin_row C [] p) x ≡ true) ⊎ ((empty_row C p ≡ true) × (has C z x ≡ true))
  unfolding begin_row empty_row
  begin_cases z [] x e = inr (refl, e)
  begin_cases z (word t ∷ p) x e = inl e
  begin_cases z (part n ∷ p) x e = go (C.empty n) (begin_cases z p x) e
    where
      F : List (Option K)
      F = firsts C n

      go : (t : Bool) → (has C (begin_row C z p) x ≡ true → (has C (begin_row C [] p) x ≡ true) ⊎ ((empty_row C p ≡ true) × (has C z x ≡ true)))
          → has C (F ++ elim t [ true ↦ begin_row C z p | false ↦ [] ]) x ≡ true
          → (has C (F ++ elim t [ true ↦ begin_row C [] p | false ↦ [] ]) x ≡ true) ⊎ ((t && empty_row C p ≡ true) × (has C z x ≡ true))
      go false k e = inl e
      go true k e = two (has_cases F (begin_row C z p) x e)
        where
          rest : (has C (begin_row C [] p) x ≡ true) ⊎ ((empty_row C p ≡ true) × (has C z x ≡ true)) → (has C (F ++ begin_row C [] p) x ≡ true) ⊎ ((empty_row C p ≡ true) × (has C z x ≡ true))
          rest (inl f) = inl (has_right F (begin_row C [] p) x f)
          rest (inr f) = inr f

          two : (has C F x ≡ true) ⊎ (has C (begin_row C z p) x ≡ true) → (has C (F ++ begin_row C [] p) x ≡ true) ⊎ ((empty_row C p ≡ true) × (has C z x ≡ true))
          two (inl f) = inl (has_left F (begin_row C [] p) x f)
          two (inr f) = rest (k f)
  begin_cases z (In ∷ p) x e = begin_cases z p x e
  begin_cases z (Out ∷ p) x e = begin_cases z p x e
