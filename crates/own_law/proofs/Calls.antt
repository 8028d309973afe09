-- How a reader counts: lists one after the other, an expansion in the middle of a list, calls that are refused, and what an outermost call comes to.
-- Assumes nothing.
use mathlib.Core.Path.{◌≡◌, refl, ap, ap₂, sym, ◌∙◌}
use mathlib.Core.Bool.{Bool, true, false, cond, not as opposite}
use mathlib.Core.List.{List, [], ◌∷◌, map}
use Prim.Native.Nat.{ℕ, suc, min}
use native.Mathlib.Omega.{arith}
use borrow.Author.Tests.{ltb-true, ltb-false, lt-ltb, le-ltb}
use lib.Dec.{ltb}
use Rattle.meaning.specs.Tree.{Name}
use Rattle.meaning.specs.Clock.{activities_all}
use Rattle.meaning.specs.States.{most_activities}
use Rattle.meaning.specs.Sizes.{count_faults}
use Rattle.meaning.specs.Unexpanded.{Term, Command, call, passing, Commands, end, ◌⨾◌, Procedure}
use Rattle.meaning.specs.Base.{base_all}
use Rattle.meaning.specs.Expansion.{Bound, replaced, followed_by, alone, expand, expand_all, called, sizes_passed, wide_call, wides, activities_of, if_within, outermost}
use Rattle.own_law.specs.Own.{Own, nothing, begun, begun_often, if_large, own_command, own_all}
use Rattle.own_law.proofs.Borne.{is_none}
use Rattle.own_law.proofs.Own.{all-adds, over_stays, own_exactly, counts_exactly}

-- ---- lists

pub own-joined : (v : Bool) (x y : Commands) (o : Own) → own_all v (followed_by x y) o ≡ own_all v y (own_all v x o)
unfolding own_command followed_by
own-joined v end y o = refl
own-joined v (l ⨾ ls) y o = own-joined v ls y (own_command v l o)

-- P4: what a statement stands for, and then the rest of its list
pub own_behind : (v : Bool) (calls : Name → List Term → Commands) (to : ℕ → ℕ) (bound : List (Bound Term)) (l : Command) (ls : Commands) (o : Own)
    → own_all v (expand_all calls to bound (l ⨾ ls)) o ≡ own_all v (expand_all calls to bound ls) (own_all v (expand calls to bound l) o)
unfolding expand
own_behind v calls to bound l ls o = own-joined v (expand calls to bound l) (expand_all calls to bound ls) o

-- what follows a list that is over need not be read
pub over_early : (v : Bool) (x y : Commands) (o : Own) → (own_all v x o).over ≡ true → own_all v (followed_by x y) o ≡ own_all v x o
over_early v x y o e = own-joined v x y o ∙ over_stays (all-adds v y) (own_all v x o) e

-- ---- calls that stay

-- P7: a refused call is one statement
pub own-refused : (v : Bool) (n : Name) (ts : List Term) (o : Own) → own_all v (alone (call n ts)) o ≡ begun o
unfolding own_command
own-refused v n ts o = refl

-- P14: a parallel of so many skips
pub own-passing : (v : Bool) (p k : ℕ) (o : Own) → own_all v (alone (passing p k)) o ≡ if_large v (ltb most_activities k) (begun_often k (begun o))
unfolding own_command
own-passing v p k o = refl

-- Z8: activities may be counted no further than nine
pub wide_capped : (n : ℕ) → ltb most_activities (min n (suc most_activities)) ≡ ltb most_activities n
wide_capped n = by (ltb most_activities n) refl
  where
    by : (b : Bool) → ltb most_activities n ≡ b → ltb most_activities (min n (suc most_activities)) ≡ b
    by true e = lt-ltb most_activities (min n (suc most_activities)) (omega (arith, ltb-true most_activities n e))
    by false e = le-ltb most_activities (min n (suc most_activities)) (omega (arith, ltb-false most_activities n e))

-- ---- an outermost call

module _ (ps : List Procedure) (v : Name) (ts : List Term) where
  -- P9: what it stands for
  abbrev pub expansion : Commands
  expansion = called ps v.place v (map (replaced (λ q. v.place) []) ts)

  -- P14: what is kept of its activities
  abbrev pub kept : ℕ
  kept = cond (own_all false expansion nothing).over (wide_call (wides ps) v ts) (activities_all (base_all expansion))

  kept_by : (l : List ℕ) → activities_of ps v ts expansion l ≡ cond (opposite (is_none l)) (wide_call (wides ps) v ts) (activities_all (base_all expansion))
  kept_by [] = refl
  kept_by (p ∷ l) = refl

  within_by : (l : List ℕ) → if_within ps v ts expansion l ≡ cond (opposite (is_none l)) (alone (passing v.place (activities_of ps v ts expansion (count_faults (base_all expansion))))) expansion
  within_by [] = refl
  within_by (p ∷ l) = refl

  -- P13: it is its expansion, unless the count of that is over
  pub outermost_by : outermost ps v ts ≡ cond (own_all true expansion nothing).over (alone (passing v.place kept)) expansion
  unfolding outermost
  outermost_by =
      within_by (sizes_passed expansion)
      ∙ ap₂ (λ (b : Bool) (k : ℕ). cond b (alone (passing v.place k)) expansion) (sym (own_exactly expansion))
      (kept_by (count_faults (base_all expansion)) ∙ ap (λ (b : Bool). cond b (wide_call (wides ps) v ts) (activities_all (base_all expansion))) (sym (counts_exactly expansion)))
