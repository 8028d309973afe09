-- Lists that are empty, and lists in which nothing is found.
-- Assumes nothing.
use mathlib.Core.Path.{◌≡◌, refl, sym, ap, ◌∙◌}
use mathlib.Core.List.{List, [], ◌∷◌, ◌++◌, append_assoc}
use Prim.Native.Nat.{ℕ}
use native.Mathlib.Omega.{arith}
use Rattle.meaning.specs.Names.{gather}

module _ {A : Type 0} where
  pub not_empty : {x : A} {l : List A} → x ∷ l ≡ [] → ⊥
  not_empty e = let z : ◌≡◌ {A = ℕ} 0 1 = cc in omega arith

  pub both-empty : (a b : List A) → a ++ b ≡ [] → (a ≡ []) × (b ≡ [])
  both-empty [] b e = (refl, e)
  both-empty (x ∷ a) b e = absurd (not_empty e)

module _ {A B : Type 0} (f : A → List B) where
  pub gather_append : (a b : List A) → gather f (a ++ b) ≡ gather f a ++ gather f b
  unfolding gather
  gather_append [] b = refl
  gather_append (x ∷ a) b = ap (λ l. f x ++ l) (gather_append a b) ∙ sym (append_assoc (f x) (gather f a) (gather f b))

  pub none_both : (a b : List A) → gather f (a ++ b) ≡ [] → (gather f a ≡ []) × (gather f b ≡ [])
  none_both a b e = both-empty (gather f a) (gather f b) (sym (gather_append a b) ∙ e)

  pub none-cons : (x : A) (l : List A) → gather f (x ∷ l) ≡ [] → (f x ≡ []) × (gather f l ≡ [])
  unfolding gather
  none-cons x l e = both-empty (f x) (gather f l) e
