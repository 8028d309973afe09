-- The activities that the walk counts are the definition's, at most 9.
-- Assumes nothing.
use mathlib.Core.Bool.{Bool, true, false, cond}
use mathlib.Core.Path.{◌≡◌, refl, ◌∙◌, ap}
use mathlib.Core.List.{List}
use mathlib.Core.Option.{Option}
use Prim.Native.Nat.{ℕ, ◌+◌, ◌≤◌, min, max}
use native.Mathlib.Omega.{arith}
use native.Mathlib.Decide.{dec_le}
use lib.Dec.{leb}
use Rattle.meaning.specs.Tree.{whole, part, Stmt, skip, delay, change, assign, choice, while, loop, exit, break, switch, parallel, Stmts, end, ◌⨾◌, Cases, default, case, Branches, none, ◌∥◌}
use Rattle.meaning.specs.Numbers.{Variable}
use Rattle.meaning.specs.Clock.{activities, activities_all, activities_cases, activities_sum}
use Rattle.meaning.specs.Sizes.{most_delay}
use Rattle.language.specs.Trees.{Name}
use Rattle.items.specs.declared.Marks.{Marks}
use Rattle.items.specs.Walk.{Walked, walked, test_at, tested, begun, with_acts, with_notes, cased, leaves, delayed, target_marks, assigned, assign_at, change_at, summed, together, finished, branched, walk, walk_all, walk_cases, walk_each}

either : (b : Bool) (m k : Marks) → k.acts ≡ m.acts → (cond b m k).acts ≡ m.acts
either true m k e = refl
either false m k e = e

delayed-acts : (m : Marks) (n p : ℕ) → (delayed m n p).acts ≡ m.acts
unfolding delayed with_notes
delayed-acts m n p = either (leb n most_delay) m _ refl

one_act : (a x : ℕ) → 1 ≤ a → x ≡ a → x ≡ max a (min 9 1)
one_act a x h e = omega arith

mono : (u v : ℕ) → u ≤ v → min 9 u ≤ min 9 v
mono u v h = omega arith

low : (a u v : ℕ) → u ≤ v → max (max a u) v ≡ max a v
low a u v h = omega arith

high : (a u v : ℕ) → v ≤ u → max (max a u) v ≡ max a u
high a u v h = omega arith

max-low : (x y : ℕ) → x ≤ y → max x y ≡ y
max-low x y h = omega arith

max-high : (x y : ℕ) → ¬ (x ≤ y) → max x y ≡ x
max-high x y h = omega arith

below : (x y : ℕ) → ¬ (x ≤ y) → y ≤ x
below x y h = omega arith

two-max : (a x y : ℕ) → Dec (x ≤ y) → max (max a (min 9 x)) (min 9 y) ≡ max a (min 9 (max x y))
two-max a x y (yes h) = rw (max-low x y h) (low a (min 9 x) (min 9 y) (mono x y h))
two-max a x y (no h) = rw (max-high x y h) (high a (min 9 x) (min 9 y) (mono y x (below x y h)))

two-acts : (a x y z r : ℕ) → r ≡ max z (min 9 y) → z ≡ max a (min 9 x) → r ≡ max a (min 9 (max x y))
two-acts a x y z r p q = p ∙ ap (λ (k : ℕ). max k (min 9 y)) q ∙ two-max a x y (dec_le x y)

stays : (a x z : ℕ) → 1 ≤ a → z ≡ max a (min 9 x) → 1 ≤ z
stays a x z h e = omega arith

added : (s x y a b c r : ℕ) → a ≡ max 1 (min 9 x) → 1 ≤ x → b ≡ min (s + a) 9 → r ≡ min 9 (b + y) → r ≡ min 9 (s + (x + y))
added s x y a b c r p h q e = omega arith

sum_first : (s r y : ℕ) → s ≤ 9 → r ≡ s → y ≡ 0 → r ≡ min 9 (s + y)
sum_first s r y h e z = omega arith

below-nine : (s a b : ℕ) → b ≡ min (s + a) 9 → b ≤ 9
below-nine s a b e = omega arith

joined-acts : (a x z r : ℕ) → z ≡ min 9 (0 + x) → r ≡ max a z → r ≡ max a (min 9 x)
joined-acts a x z r p q = omega arith

pub some-acts : (v : Stmts Name) → 1 ≤ activities_all v
unfolding activities
some-acts end = omega arith
some-acts (x ⨾ ss) = let h = some-acts ss in omega arith

module _ (look : List ℕ → Option Variable) where
  mutual
    unfolding walk finished begun test_at tested with_notes with_acts cased leaves change_at target_marks assign_at assigned branched together summed activities

    pub acts_is : (v : Stmt Name) (l b : Bool) (w : Walked) → 1 ≤ w.marks.acts → (walk look v l b w).marks.acts ≡ max w.marks.acts (min 9 (activities v))
    acts_is (skip h) l b w q = one_act w.marks.acts _ q refl
    acts_is (delay h p n) l b w q = one_act w.marks.acts _ q (delayed-acts _ n p)
    acts_is (change h c (whole v)) l b w q = one_act w.marks.acts _ q refl
    acts_is (change h c (part v j)) l b w q = one_act w.marks.acts _ q refl
    acts_is (assign h v e) l b w q = one_act w.marks.acts _ q refl
    acts_is (choice h e x y) l b w q = let z = acts-all x l b _ q in two-acts w.marks.acts (activities_all x) (activities_all y) _ _ (acts-all y l b _ (stays w.marks.acts (activities_all x) _ q z)) z
    acts_is (while h e x) l b w q = acts-all x true b _ q
    acts_is (loop h x) l b w q = acts-all x true b _ q
    acts_is (exit h) l b w q = one_act w.marks.acts _ q refl
    acts_is (break h) l b w q = one_act w.marks.acts _ q refl
    acts_is (switch h cs) l b w q = acts_cases cs l true _ q
    acts_is (parallel h bs) l b w q = joined-acts w.marks.acts (activities_sum bs) _ _ (acts-each bs l _ (omega arith)) refl

    pub acts-all : (v : Stmts Name) (l b : Bool) (w : Walked) → 1 ≤ w.marks.acts → (walk_all look v l b w).marks.acts ≡ max w.marks.acts (min 9 (activities_all v))
    acts-all end l b w q = one_act w.marks.acts _ q refl
    acts-all (x ⨾ ss) l b w q = let z = acts_is x l b w q in two-acts w.marks.acts (activities x) (activities_all ss) _ _ (acts-all ss l b _ (stays w.marks.acts (activities x) _ q z)) z

    pub acts_cases : (v : Cases Name) (l b : Bool) (w : Walked) → 1 ≤ w.marks.acts → (walk_cases look v l b w).marks.acts ≡ max w.marks.acts (min 9 (activities_cases v))
    acts_cases (default d) l b w q = acts-all d l b w q
    acts_cases (case h e x cs) l b w q = let z = acts-all x l b _ q in two-acts w.marks.acts (activities_all x) (activities_cases cs) _ _ (acts_cases cs l b _ (stays w.marks.acts (activities_all x) _ q z)) z

    pub acts-each : (v : Branches Name) (l : Bool) (w : Walked) → w.marks.acts ≤ 9 → (walk_each look v l w).marks.acts ≡ min 9 (w.marks.acts + activities_sum v)
    acts-each none l w q = sum_first w.marks.acts _ 0 q refl refl
    acts-each (x ∥ bs) l w q =
        let z = acts-all x l true (walked (with_acts w.marks 1) w.bytes) (omega arith) in
        added w.marks.acts (activities_all x) (activities_sum bs) _ _ 0 _ z (some-acts x) refl (acts-each bs l _ (below-nine w.marks.acts _ _ refl))
