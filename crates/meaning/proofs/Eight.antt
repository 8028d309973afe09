-- Of a source without faults the eight places of a state hold every activity, in every clock.
-- Assumes nothing.
use mathlib.Core.Path.{◌≡◌, refl, ap₂}
use mathlib.Core.List.{List, []}
use mathlib.Core.Option.{none}
use Prim.Native.Nat.{ℕ, suc, ◌+◌, ◌≤◌, max}
use native.Mathlib.Nat.{max-le}
use native.Mathlib.Omega.{arith}
use borrow.Author.Tests.{ltb-false}
use lib.Dec.{ltb}
use lib.ListN.{length}
use Rattle.meaning.specs.Tree.{Name, Stmt, skip, delay, change, assign, choice, while, loop, exit, break, switch, parallel, Stmts, end, ◌⨾◌, Cases, default, case, Branches, ◌∥◌}
use Rattle.meaning.specs.Tree as tree
use Rattle.meaning.specs.Numbers.{Variable, Reads}
use Rattle.meaning.specs.Clock.{Entry, activities, activities_all, activities_cases, activities_sum, resume_all}
use Rattle.meaning.specs.States.{most_activities}
use Rattle.meaning.specs.Declared.{Source}
use Rattle.meaning.specs.Items.{items, items_all, items_cases}
use Rattle.meaning.specs.Checked.{variable_of, checked, checked_all, checked_cases, checked_each, program_of}
use Rattle.meaning.specs.Names.{gather}
use Rattle.meaning.specs.Sizes.{item_size}
use Rattle.meaning.specs.Faults.{fault_of}
use Rattle.meaning.proofs.Declared.{when-none}
use Rattle.meaning.proofs.Faults.{none_exactly}
use Rattle.meaning.proofs.Lists.{none_both, none-cons}
use Rattle.meaning.proofs.Sizes.{sized}
use Rattle.meaning.proofs.Places.{Places, more, resume-places-all}

-- a statement has its activities whatever its names stand for
module _ (look : Name → Variable) where
  mutual
    unfolding activities checked

    same : (s : Stmt Name) (n : ℕ) → activities (checked s look n) ≡ activities s
    same (skip h) n = refl
    same (delay h p d) n = refl
    same (change h c t) n = refl
    same (assign h v e) n = refl
    same (choice h e a b) n = ap₂ max (same-all a (suc n)) (same-all b (suc n + length (items_all a)))
    same (while h e b) n = same-all b (suc n)
    same (loop h b) n = same-all b (suc n)
    same (exit h) n = refl
    same (break h) n = refl
    same (switch h cs) n = same_cases cs (suc n)
    same (parallel h bs) n = same_sum bs (suc n)

    pub same-all : (ss : Stmts Name) (n : ℕ) → activities_all (checked_all ss look n) ≡ activities_all ss
    same-all end n = refl
    same-all (s ⨾ ss) n = ap₂ max (same s n) (same-all ss (n + length (items s)))

    same_cases : (cs : Cases Name) (n : ℕ) → activities_cases (checked_cases cs look n) ≡ activities_cases cs
    same_cases (default d) n = same-all d n
    same_cases (case h e b cs) n = ap₂ max (same-all b (suc n)) (same_cases cs (suc n + length (items_all b)))

    same_sum : (bs : Branches Name) (n : ℕ) → activities_sum (checked_each bs look n) ≡ activities_sum bs
    same_sum tree.none n = refl
    same_sum (b ∥ bs) n = ap₂ ◌+◌ (same-all b n) (same_sum bs (n + length (items_all b)))

-- no size fault in the statements: "Every `parallel` whose sum is above 8 is a fault"
mutual
  unfolding activities items

  eight : (s : Stmt Name) → gather item_size (items s) ≡ [] → activities s ≤ most_activities
  eight (skip h) e = omega arith
  eight (delay h p d) e = omega arith
  eight (change h c t) e = omega arith
  eight (assign h v x) e = omega arith
  eight (choice h x a b) e =
      let (p, q) = none_both item_size (items_all a) (items_all b) (none-cons item_size _ _ e).1 in
      max-le (eight-all a p) (eight-all b q)
  eight (while h x b) e = eight-all b (none-cons item_size _ _ e).1
  eight (loop h b) e = eight-all b (none-cons item_size _ _ e).1
  eight (exit h) e = omega arith
  eight (break h) e = omega arith
  eight (switch h cs) e = eight_cases cs (none-cons item_size _ _ e).1
  eight (parallel h bs) e =
      ltb-false most_activities (activities_sum bs) (when-none (ltb most_activities (activities_sum bs)) h.place (none-cons item_size _ _ e).0)

  pub eight-all : (ss : Stmts Name) → gather item_size (items_all ss) ≡ [] → activities_all ss ≤ most_activities
  eight-all end e = omega arith
  eight-all (s ⨾ ss) e = let (p, q) = none_both item_size (items s) (items_all ss) e in max-le (eight s p) (eight-all ss q)

  eight_cases : (cs : Cases Name) → gather item_size (items_cases cs) ≡ [] → activities_cases cs ≤ most_activities
  eight_cases (default d) e = eight-all d e
  eight_cases (case h x b cs) e =
      let (p, q) = none_both item_size (items_all b) (items_cases cs) (none-cons item_size _ _ e).1 in
      max-le (eight-all b p) (eight_cases cs q)

module _ (s : Source) (good : fault_of s ≡ none) where
  body-eight : activities_all s.body ≤ most_activities
  body-eight = eight-all s.body (sized s ((none_exactly s).0 good).sizes).delays_and_activities

  pub eight-places : (es : List Entry) (r : Reads) → Places most_activities (resume_all (program_of s).body es r)
  unfolding program_of
  eight-places es r =
      more (rw (same-all (variable_of s.declared) s.body 0) body-eight) (resume-places-all (program_of s).body es r)
