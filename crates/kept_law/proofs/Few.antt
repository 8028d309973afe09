-- Statements as a text can have them have no more activities than statements.
-- Assumes nothing.
use Prim.Native.Nat.{◌≤◌, max}
use native.Mathlib.Omega.{arith}
use Rattle.meaning.specs.Clock.{activities, activities_all, activities_cases, activities_sum}
use Rattle.meaning.specs.Items.{items, items_all, items_cases, items_each}
use Rattle.meaning.specs.Names.{gather}
use Rattle.meaning.specs.Unexpanded.{Command, skip, delay, change, assign, choice, while, loop, exit, break, switch, parallel, call, passing, Commands, end, ◌⨾◌, Tests, default, case, Strands, ◌∥◌}
use Rattle.meaning.specs.Unexpanded as unexpanded
use Rattle.meaning.specs.Base.{base, base_all, base_tests, base_each}
use Rattle.own_law.proofs.Own.{statements_in, statements-both}
use Rattle.kept_law.specs.Kept.{Some}
use Rattle.kept_law.specs.Written.{Written, WrittenAll, WrittenTests, WrittenEach}

mutual
  unfolding activities items gather base Written

  one-few : (c : Command) → Written c → activities (base c) ≤ statements_in (items (base c))
  one-few (skip p) x = omega arith
  one-few (delay p q n) x = omega arith
  one-few (change p c t) x = omega arith
  one-few (assign v e) x = omega arith
  one-few (choice p e a b) (x, y) = omega (arith, all-few a x, all-few b y, statements-both (items_all (base_all a)) (items_all (base_all b)))
  one-few (while p e b) x = omega (arith, all-few b x)
  one-few (loop p b) x = omega (arith, all-few b x)
  one-few (exit p) x = omega arith
  one-few (break p) x = omega arith
  one-few (switch p ts) x = omega (arith, tests-few ts x)
  one-few (parallel p bs) x = omega (arith, each-few bs x)
  one-few (call v ts) x = omega arith
  one-few (passing p k) x = absurd x

  pub all-few : (x : Commands) → WrittenAll x → activities_all (base_all x) ≤ max 1 (statements_in (items_all (base_all x)))
  all-few end x = omega arith
  all-few (l ⨾ ls) (x, y) = omega (arith, one-few l x, all-few ls y, statements-both (items (base l)) (items_all (base_all ls)))

  -- one statement or more
  some-few : (x : Commands) → Some x → WrittenAll x → activities_all (base_all x) ≤ statements_in (items_all (base_all x))
  some-few end e x = absurd e
  some-few (l ⨾ ls) e (x, y) = omega (arith, one-few l x, one-some l, all-few ls y, statements-both (items (base l)) (items_all (base_all ls)))

  tests-few : (ts : Tests) → WrittenTests ts → activities_cases (base_tests ts) ≤ max 1 (statements_in (items_cases (base_tests ts)))
  tests-few (default d) x = all-few d x
  tests-few (case p e b ts) (s, (x, y)) = omega (arith, all-few b x, tests-few ts y, statements-both (items_all (base_all b)) (items_cases (base_tests ts)))

  each-few : (bs : Strands) → WrittenEach bs → activities_sum (base_each bs) ≤ statements_in (items_each (base_each bs))
  each-few unexpanded.none x = omega arith
  each-few (b ∥ bs) (s, (x, y)) = omega (arith, some-few b s x, each-few bs y, statements-both (items_all (base_all b)) (items_each (base_each bs)))

  -- every statement is one
  one-some : (c : Command) → 1 ≤ statements_in (items (base c))
  one-some (skip p) = omega arith
  one-some (delay p q n) = omega arith
  one-some (change p c t) = omega arith
  one-some (assign v e) = omega arith
  one-some (choice p e a b) = omega arith
  one-some (while p e b) = omega arith
  one-some (loop p b) = omega arith
  one-some (exit p) = omega arith
  one-some (break p) = omega arith
  one-some (switch p ts) = omega arith
  one-some (parallel p bs) = omega arith
  one-some (call v ts) = omega arith
  one-some (passing p k) = omega arith
