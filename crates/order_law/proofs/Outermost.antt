-- What is noted of an outermost call's expansion: what is noted inside the call, and 9 at its place where a level too many opens.
-- Assumes nothing.
use mathlib.Core.Path.{◌≡◌, refl, sym, ap, ◌∙◌}
use mathlib.Core.Bool.{Bool, true, false, cond}
use mathlib.Core.List.{List, [], ◌∷◌, ◌++◌}
use mathlib.Core.Option.{Option}
use Prim.Native.Nat.{ℕ, ◌+◌, ◌≤◌, min}
use native.Mathlib.Omega.{arith}
use lib.Dec.{ltb}
use borrow.Author.Tests.{ltb-true, ltb-false}
use Rattle.meaning.specs.Numbers.{Variable}
use Rattle.meaning.specs.Faults.{least}
use Rattle.meaning.specs.Levels.{most_levels, level_faults}
use Rattle.meaning.specs.Unexpanded.{Commands}
use Rattle.meaning.specs.Base.{base_all}
use Rattle.meaning.specs.Procedures.{calls_passing}
use Rattle.meaning.proofs.Depth.{depth_all, lines_fit}
use Rattle.expand_law.proofs.Sizes.{levels_exactly}
use Rattle.expand_law.proofs.Places.{AllAt}
use Rattle.own_law.specs.Noted.{noted_all}
use Rattle.own_law.proofs.Noted.{all_pass, noted-nine}
use Rattle.items.specs.Walk.{Walked, walk_all}
use Rattle.items.specs.Under.{marked_at, six_at, nine_at, nine_in, read}
use Rattle.order_law.proofs.Order.{places}

-- the least of places that are all the same
least-all : (p k : ℕ) (l : List ℕ) → AllAt p l → least (min k p) l ≡ min k p
unfolding least
least-all p k [] h = refl
least-all p k (q ∷ l) (e, h) = ap (λ (n : ℕ). least n l) (let x : min (min k p) q ≡ min k p = omega (arith, e) in x) ∙ least-all p k l h

module _ (n : ℕ) (x : Commands) (p : ℕ) (at : AllAt p (level_faults n x)) (low : n ≤ most_levels) (none : calls_passing x ≡ []) where
  -- some level too many opens, or none
  fault-least : (k : ℕ) → least k (calls_passing x ++ level_faults n x) ≡ cond (ltb most_levels (n + depth_all x)) (min k p) k
  unfolding least
  fault-least k = ap (λ (l : List ℕ). least k (l ++ level_faults n x)) none ∙ by (ltb most_levels (n + depth_all x)) refl (level_faults n x) refl at
    where
      by : (b : Bool) → ltb most_levels (n + depth_all x) ≡ b → (l : List ℕ) → level_faults n x ≡ l → AllAt p l → least k l ≡ cond b (min k p) k
      by true e [] f h = absurd (omega (arith, ltb-true most_levels (n + depth_all x) e, (levels_exactly n x low).0 f))
      by true e (q ∷ l) f (g, h) = ap (λ (j : ℕ). least (min k j) l) g ∙ least-all p k l h
      by false e l f h = ap (λ (j : List ℕ). least k j) (sym f ∙ lines_fit n x (omega (arith, ltb-false most_levels (n + depth_all x) e)))

  module _ (w : Walked) where
    abbrev all : Walked
    all = noted_all six_at nine_at n x w

    abbrev some : Walked
    some = noted_all six_at (nine_in true) n x w

    -- without the notes of 9
    some_is : some ≡ marked_at all.marks.notes.six w.marks.notes.nine all
    some_is =
        sym (all_pass six_at (nine_in true) six_at (nine_in true) (λ (s : Walked). marked_at s.marks.notes.six w.marks.notes.nine s) (λ q s. refl) (λ q s. refl) n x (marked_at w.marks.notes.six 0 w))
        ∙ ap (λ (s : Walked). marked_at s.marks.notes.six w.marks.notes.nine s) (sym (all_pass six_at nine_at six_at (nine_in true) (λ (s : Walked). marked_at s.marks.notes.six 0 s) (λ q s. refl) (λ q s. refl) n x w))

    told_at_lem : all ≡ cond (ltb most_levels (n + depth_all x)) (nine_at p some) some
    told_at_lem = ap (λ (k : ℕ). marked_at all.marks.notes.six k all) (noted-nine six_at nine_at places n x w ∙ fault-least w.marks.notes.nine) ∙ by (ltb most_levels (n + depth_all x))
      where
        by : (b : Bool) → marked_at all.marks.notes.six (cond b (min w.marks.notes.nine p) w.marks.notes.nine) all ≡ cond b (nine_at p some) some
        by true = ap (nine_at p) (sym some_is)
        by false = sym some_is

  -- P12: an expansion whose places are all p
  pub read-levels : (look : List ℕ → Option Variable) (l b : Bool) (w : Walked) → read look false n x l b w ≡ cond (ltb most_levels (n + depth_all x)) (nine_at p (read look true n x l b w)) (read look true n x l b w)
  read-levels look l b w = told_at_lem (walk_all look (base_all x) l b w)
