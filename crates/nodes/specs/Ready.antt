-- A stored tree that the clock can run.
-- Assumes nothing.
use Rattle.std.specs.Prelude.{◌≡◌, ℕ, ◌+◌, ◌*◌, ◌≤◌, Bool, true, false, List}
use Rattle.meaning.specs.Clock.{activities_all}
use Rattle.nodes.specs.Layout.{half_at, node_base, what_at, shape_of, width_at, looks_at}
use Rattle.nodes.specs.Decode.{list_at}
use Rattle.nodes.specs.Good.{GoodAll}
use Rattle.nodes.specs.declared.Shape.{Shape}
use Rattle.nodes.specs.declared.Shape.TheVariants.{Plain, Waiting, Either, Repeat, Tests, Together}

abbrev pub is_leaf : Shape → Bool
is_leaf Plain = true
is_leaf (Waiting n) = true
is_leaf (Either m) = false
is_leaf Repeat = false
is_leaf Tests = false
is_leaf Together = false

-- a statement with no parts ends at the next number
pub record Leaves (t : List ℕ) : Type 0 where
  pub leaf : (i : ℕ) → is_leaf (shape_of (what_at t i)) ≡ true → half_at t (node_base i + 4) ≤ i + 1

-- the n statements and case tests of a program
pub record Ready (t : List ℕ) (n left : ℕ) : Type 0 where
  pub leaves : Leaves t
  pub fuel : 3 * n ≤ left
  pub good : GoodAll (width_at t) (looks_at t) (list_at left t 0 n)
  pub wide : activities_all (list_at left t 0 n) ≤ 8
