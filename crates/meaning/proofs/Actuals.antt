-- What is said of actuals can be said of what is known of them: the same formals, the same count.
-- Assumes nothing.
use mathlib.Core.Path.{◌≡◌, refl, ap}
use mathlib.Core.Bool.{Bool, true, false, cond}
use mathlib.Core.List.{List, [], ◌∷◌, map}
use mathlib.Core.Option.{Option, none, some}
use Prim.Native.Nat.{ℕ}
use Rattle.meaning.specs.Tree.{Name}
use Rattle.meaning.specs.Declared.{same_bytes}
use Rattle.meaning.specs.Unexpanded.{Term}
use Rattle.meaning.specs.Expansion.{Bound, actual_of, bind, same_count}

module _ {A B : Type 0} (f : A → B) where
  abbrev pub each_bound : List (Bound A) → List (Bound B)
  each_bound [] = []
  each_bound (b ∷ bs) = record { formal = b.formal; actual = f b.actual } ∷ each_bound bs

  abbrev pub if_any : Option A → Option B
  if_any none = none
  if_any (some a) = some (f a)

  pub actual-known : (bs : List (Bound A)) (x : List ℕ) → actual_of (each_bound bs) x ≡ if_any (actual_of bs x)
  unfolding actual_of
  actual-known [] x = refl
  actual-known (b ∷ bs) x = by (same_bytes b.formal x) (actual-known bs x)
    where
      by : (t : Bool) → actual_of (each_bound bs) x ≡ if_any (actual_of bs x) → cond t (some (f b.actual)) (actual_of (each_bound bs) x) ≡ if_any (cond t (some b.actual) (actual_of bs x))
      by true e = refl
      by false e = e

  pub bind-known : (ns : List Name) (ts : List A) → each_bound (bind ns ts) ≡ bind ns (map f ts)
  unfolding bind
  bind-known [] ts = refl
  bind-known (n ∷ ns) [] = refl
  bind-known (n ∷ ns) (t ∷ ts) = ap (λ (l : List (Bound B)). record { formal = n.bytes; actual = f t } ∷ l) (bind-known ns ts)

-- as many as there are formals
unfoldable pub as_many : {A : Type 0} → List Name → List A → Bool
as_many [] [] = true
as_many [] (s ∷ ss) = false
as_many (n ∷ ns) [] = false
as_many (n ∷ ns) (s ∷ ss) = as_many ns ss

pub as_many_lem : {A : Type 0} (f : Term → A) (ns : List Name) (ts : List Term) → same_count ns ts ≡ as_many ns (map f ts)
unfolding same_count as_many
as_many_lem f [] [] = refl
as_many_lem f [] (t ∷ ts) = refl
as_many_lem f (n ∷ ns) [] = refl
as_many_lem f (n ∷ ns) (t ∷ ts) = as_many_lem f ns ts
