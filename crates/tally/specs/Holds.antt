-- What a tally says of an expansion: P13 by the count of every size, P14 by that of statements and parts alone, and the activities.
-- Assumes nothing.
use Rattle.std.specs.Prelude.{Bool, true, false, cond, ◌≡◌, ℕ, ◌+◌, ◌≤◌, min, max}
use Rattle.meaning.specs.Clock.{activities_all, activities_cases, activities_sum}
use Rattle.meaning.specs.Sizes.{most_statements, most_parts}
use Rattle.meaning.specs.Levels.{most_levels}
use Rattle.meaning.specs.Unexpanded.{Commands, Tests, Strands}
use Rattle.meaning.specs.Base.{base_all, base_tests, base_each}
use Rattle.own_law.specs.Own.{Own, past, own_all, own_tests, own_each}
use Rattle.own_law.proofs.Around.{around}
use Rattle.tally.specs.declared.Tally.{Tally}
use Rattle.tally.specs.Tally.{most_counted}

-- both counts, and the activities
pub record State : Type 0 where
  pub every : Own
  pub counts : Own
  pub acts : ℕ

-- at the outermost call, with n levels open around
abbrev pub at_start : ℕ → State
at_start n = record { every = around n; counts = around n; acts = 1 }

-- ---- what the counts come to

abbrev pub doing : (Bool → Own → Own) → State → State
doing f x = record { every = f true x.every; counts = f false x.counts; acts = x.acts }

abbrev pub with_acts : State → ℕ → State
with_acts x a = record { every = x.every; counts = x.counts; acts = a }

abbrev pub over_all : Commands → State → State
over_all v x = record { every = own_all true v x.every; counts = own_all false v x.counts; acts = max x.acts (activities_all (base_all v)) }

abbrev pub over_tests : Tests → State → State
over_tests v x = record { every = own_tests true v x.every; counts = own_tests false v x.counts; acts = max x.acts (activities_cases (base_tests v)) }

-- a branch, and branches: their activities are added
abbrev pub over_branch : Commands → State → State
over_branch v x = record { every = own_all true v x.every; counts = own_all false v x.counts; acts = x.acts + activities_all (base_all v) }

abbrev pub over_each : Strands → State → State
over_each v x = record { every = own_each true v x.every; counts = own_each false v x.counts; acts = x.acts + activities_sum (base_each v) }

-- ---- what a tally says of them

-- the counts, with k levels open
abbrev pub counts_of : ℕ → Tally → Own
counts_of k m = record { statements = m.statements; parts = m.parts; levels = k; over = false }

abbrev pub every_of : ℕ → Tally → Own
every_of k m = cond m.large past (counts_of k m)

-- no statement and no part is too many: all is exact
pub record Within (k : ℕ) (m : Tally) (x : State) : Type 0 where
  pub few : m.statements ≤ most_statements
  pub small : m.parts ≤ most_parts
  pub high : m.large ≡ false → k ≤ most_levels
  pub every : x.every ≡ every_of k m
  pub counts : x.counts ≡ counts_of k m
  pub acts : m.acts ≡ min x.acts most_counted

-- .. or one is
pub record Holds (k : ℕ) (m : Tally) (x : State) : Type 0 where
  pub over : m.passed ≡ true → x.counts.over ≡ true
  pub exact : m.passed ≡ false → Within k m x
