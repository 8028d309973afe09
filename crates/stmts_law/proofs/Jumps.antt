-- The least place of 8 that the walk has is the definition's.
-- Assumes nothing.
use mathlib.Core.Bool.{Bool, true, false, cond, not as opposite}
use mathlib.Core.Path.{◌≡◌, refl, sym, ◌∙◌, ap}
use mathlib.Core.List.{List, ◌++◌}
use mathlib.Core.Option.{Option}
use Prim.Native.Nat.{ℕ, min}
use lib.Dec.{leb}
use Rattle.meaning.specs.Tree.{whole, part, Stmt, skip, delay, change, assign, choice, while, loop, exit, break, switch, parallel, Stmts, end, ◌⨾◌, Cases, default, case, Branches, none, ◌∥◌}
use Rattle.meaning.specs.Numbers.{Variable}
use Rattle.meaning.specs.Names.{when}
use Rattle.meaning.specs.Jumps.{jump_in, jump_all, jump_cases, jump_each}
use Rattle.meaning.specs.Sizes.{most_delay}
use Rattle.meaning.specs.States.{most_activities}
use Rattle.meaning.specs.Faults.{least}
use Rattle.language.specs.Trees.{Name}
use Rattle.items.specs.declared.Marks.{Marks}
use Rattle.items.specs.Walk.{Walked, test_at, tested, begun, with_acts, with_notes, cased, leaves, delayed, target_marks, assigned, assign_at, change_at, together, finished, branched, walk, walk_all, walk_cases, walk_each}
use Rattle.expr_law.proofs.Least.{least-append}

either : (b : Bool) (m k : Marks) → k.eight ≡ m.eight → (cond b m k).eight ≡ m.eight
either true m k e = refl
either false m k e = e

delayed-eight : (m : Marks) (n p : ℕ) → (delayed m n p).eight ≡ m.eight
unfolding delayed with_notes
delayed-eight m n p = either (leb n most_delay) m _ refl

together-eight : (m : Marks) (a p : ℕ) → (together m a p).eight ≡ m.eight
unfolding together with_acts with_notes
together-eight m a p = either (leb m.acts most_activities) m _ refl

leaves-eight : (b : Bool) (x p : ℕ) → cond b x (min x p) ≡ least x (when (opposite b) p)
unfolding least
leaves-eight true x p = refl
leaves-eight false x p = refl

then_is : (n m : ℕ) (a b : List ℕ) → m ≡ least n a → least m b ≡ least n (a ++ b)
then_is n m a b e = ap (λ (k : ℕ). least k b) e ∙ sym (least-append n a b)

module _ (look : List ℕ → Option Variable) where
  mutual
    unfolding walk finished begun test_at tested with_notes with_acts cased leaves change_at target_marks assign_at assigned branched jump_in least

    pub eight_is : (v : Stmt Name) (l b : Bool) (w : Walked) → (walk look v l b w).marks.eight ≡ least w.marks.eight (jump_in v l b)
    eight_is (skip h) l b w = refl
    eight_is (delay h p n) l b w = delayed-eight _ n p
    eight_is (change h c (whole v)) l b w = refl
    eight_is (change h c (part v j)) l b w = refl
    eight_is (assign h v e) l b w = refl
    eight_is (choice h e x y) l b w = eight-all y l b _ ∙ then_is w.marks.eight _ (jump_all x l b) (jump_all y l b) (eight-all x l b _)
    eight_is (while h e x) l b w = eight-all x true b _
    eight_is (loop h x) l b w = eight-all x true b _
    eight_is (exit h) l b w = leaves-eight l w.marks.eight h.place
    eight_is (break h) l b w = leaves-eight b w.marks.eight h.place
    eight_is (switch h cs) l b w = eight_cases cs l true _
    eight_is (parallel h bs) l b w = together-eight _ w.marks.acts h.place ∙ eight-each bs l _

    pub eight-all : (v : Stmts Name) (l b : Bool) (w : Walked) → (walk_all look v l b w).marks.eight ≡ least w.marks.eight (jump_all v l b)
    eight-all end l b w = refl
    eight-all (x ⨾ ss) l b w = eight-all ss l b (walk look x l b w) ∙ then_is w.marks.eight _ (jump_in x l b) (jump_all ss l b) (eight_is x l b w)

    pub eight_cases : (v : Cases Name) (l b : Bool) (w : Walked) → (walk_cases look v l b w).marks.eight ≡ least w.marks.eight (jump_cases v l b)
    eight_cases (default d) l b w = eight-all d l b w
    eight_cases (case h e x cs) l b w = eight_cases cs l b _ ∙ then_is w.marks.eight _ (jump_all x l b) (jump_cases cs l b) (eight-all x l b _)

    pub eight-each : (v : Branches Name) (l : Bool) (w : Walked) → (walk_each look v l w).marks.eight ≡ least w.marks.eight (jump_each v l true)
    eight-each none l w = refl
    eight-each (x ∥ bs) l w = eight-each bs l _ ∙ then_is w.marks.eight _ (jump_all x l true) (jump_each bs l true) (eight-all x l true _)
