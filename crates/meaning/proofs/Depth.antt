-- How deep statements go, and that those that do not go too deep open no level too many.
-- Assumes nothing.
use mathlib.Core.Path.{◌≡◌, refl, ap₂}
use mathlib.Core.Bool.{Bool, true, false}
use mathlib.Core.List.{[], ◌++◌}
use Prim.Native.Nat.{ℕ, suc, ◌+◌, ◌≤◌, max}
use native.Mathlib.Omega.{arith}
use borrow.Author.Tests.{ltb-true}
use lib.Dec.{ltb}
use Rattle.meaning.specs.Names.{when}
use Rattle.meaning.specs.Unexpanded.{Command, skip, delay, change, assign, choice, while, loop, exit, break, switch, parallel, call, passing, Commands, end, ◌⨾◌, Tests, default, case, Strands, none, ◌∥◌}
use Rattle.meaning.specs.Levels.{most_levels, levels_in, too_deep, level_fault, level_faults, level_tests, level_each}

unfoldable mutual
  pub depth : Command → ℕ
  depth (skip p) = 0
  depth (delay p q n) = 0
  depth (change p c t) = 1
  depth (assign v e) = levels_in e
  depth (choice p e a b) = suc (max (levels_in e) (max (depth_all a) (depth_all b)))
  depth (while p e b) = suc (max (levels_in e) (depth_all b))
  depth (loop p b) = suc (depth_all b)
  depth (exit p) = 0
  depth (break p) = 0
  depth (switch p ts) = suc (depth_tests ts)
  depth (parallel p bs) = suc (depth_each bs)
  depth (call v ts) = 0
  depth (passing p k) = 0

  pub depth_all : Commands → ℕ
  depth_all end = 0
  depth_all (l ⨾ ls) = max (depth l) (depth_all ls)

  pub depth_tests : Tests → ℕ
  depth_tests (default d) = depth_all d
  depth_tests (case p e b ts) = max (levels_in e) (max (depth_all b) (depth_tests ts))

  pub depth_each : Strands → ℕ
  depth_each none = 0
  depth_each (b ∥ bs) = max (depth_all b) (depth_each bs)

not_deep : (n p : ℕ) → n ≤ most_levels → too_deep n p ≡ []
not_deep n p h = by (ltb most_levels n) refl
  where
    by : (b : Bool) → ltb most_levels n ≡ b → when b p ≡ []
    by true e = absurd (omega (arith, ltb-true most_levels n e))
    by false e = refl

mutual
  unfolding depth level_fault

  line-fits : (n : ℕ) (l : Command) → n + depth l ≤ most_levels → level_fault n l ≡ []
  line-fits n (skip p) h = refl
  line-fits n (delay p q d) h = refl
  line-fits n (change p c t) h = not_deep (suc n) p (omega arith)
  line-fits n (assign v e) h = not_deep (n + levels_in e) v.place h
  line-fits n (choice p e a b) h = ap₂ ◌++◌ (not_deep (suc n + levels_in e) p (omega arith)) (ap₂ ◌++◌ (lines_fit (suc n) a (omega arith)) (lines_fit (suc n) b (omega arith)))
  line-fits n (while p e b) h = ap₂ ◌++◌ (not_deep (suc n + levels_in e) p (omega arith)) (lines_fit (suc n) b (omega arith))
  line-fits n (loop p b) h = ap₂ ◌++◌ (not_deep (suc n) p (omega arith)) (lines_fit (suc n) b (omega arith))
  line-fits n (exit p) h = refl
  line-fits n (break p) h = refl
  line-fits n (switch p ts) h = ap₂ ◌++◌ (not_deep (suc n) p (omega arith)) (tests_fit (suc n) ts (omega arith))
  line-fits n (parallel p bs) h = ap₂ ◌++◌ (not_deep (suc n) p (omega arith)) (each_fits (suc n) bs (omega arith))
  line-fits n (call v ts) h = refl
  line-fits n (passing p k) h = refl

  pub lines_fit : (n : ℕ) (ls : Commands) → n + depth_all ls ≤ most_levels → level_faults n ls ≡ []
  lines_fit n end h = refl
  lines_fit n (l ⨾ ls) h = ap₂ ◌++◌ (line-fits n l (omega arith)) (lines_fit n ls (omega arith))

  tests_fit : (n : ℕ) (ts : Tests) → n + depth_tests ts ≤ most_levels → level_tests n ts ≡ []
  tests_fit n (default d) h = lines_fit n d h
  tests_fit n (case p e b ts) h = ap₂ ◌++◌ (not_deep (n + levels_in e) p (omega arith)) (ap₂ ◌++◌ (lines_fit n b (omega arith)) (tests_fit n ts (omega arith)))

  each_fits : (n : ℕ) (bs : Strands) → n + depth_each bs ≤ most_levels → level_each n bs ≡ []
  each_fits n none h = refl
  each_fits n (b ∥ bs) h = ap₂ ◌++◌ (lines_fit n b (omega arith)) (each_fits n bs (omega arith))
