-- P13: what an outermost call's expansion counts by itself, in text order, and when it is over: the first size that it passes ends the count.
-- Assumes nothing.
use Rattle.std.specs.Prelude.{ℕ, zero, suc, ◌+◌, ◌-◌, Bool, true, false, cond, ◌≡◌, ltb}
use Rattle.meaning.specs.Clock.{activities_sum}
use Rattle.meaning.specs.States.{most_activities}
use Rattle.meaning.specs.Kinds.{both}
use Rattle.meaning.specs.Sizes.{most_statements, most_parts, most_delay}
use Rattle.meaning.specs.Levels.{most_levels}
use Rattle.meaning.specs.Unexpanded.{Term, literal, truth, variable, bit, not, int, arithmetic, comparison, logic, parens, instead, no_name, Command, skip, delay, change, assign, choice, while, loop, exit, break, switch, parallel, call, passing, Commands, end, ◌⨾◌, Tests, default, case, Strands, ◌∥◌}
use Rattle.meaning.specs.Unexpanded as unexpanded
use Rattle.meaning.specs.Base.{base_each}

-- since the outermost call: statements and parts, levels that are open, and whether a size is passed
pub record Own : Type 0 where
  pub statements : ℕ
  pub parts : ℕ
  pub levels : ℕ
  pub over : Bool

-- at the outermost call
abbrev pub nothing : Own
nothing = record { statements = 0; parts = 0; levels = 0; over = false }

-- a size is passed: nothing counts any more
abbrev pub past : Own
past = record { statements = 0; parts = 0; levels = 0; over = true }

-- Z5: one statement more
unfoldable pub begun : Own → Own
begun o = cond o.over o (cond (ltb o.statements most_statements) (record { statements = o.statements + 1; parts = o.parts; levels = o.levels; over = false }) past)

-- Z6: one part more
unfoldable pub parted : Own → Own
parted o = cond o.over o (cond (ltb o.parts most_parts) (record { statements = o.statements; parts = o.parts + 1; levels = o.levels; over = false }) past)

-- a level closes
unfoldable pub closed : Own → Own
closed o = cond o.over o (record { statements = o.statements; parts = o.parts; levels = o.levels - 1; over = false })

-- so many statements more
unfoldable pub begun_often : ℕ → Own → Own
begun_often zero o = o
begun_often (suc k) o = begun_often k (begun o)

-- P13: every size; or P14: statements and parts alone
module _ (every : Bool) where
  -- Z9: a level opens
  unfoldable pub opened : Own → Own
  opened o = cond o.over o (cond (cond every (ltb o.levels most_levels) true) (record { statements = o.statements; parts = o.parts; levels = o.levels + 1; over = false }) past)

  -- Z7, Z8: something is too large
  unfoldable pub if_large : Bool → Own → Own
  if_large large o = cond o.over o (cond (both every large) past o)

  unfoldable pub own_term : Term → Own → Own
  own_term (literal p n) o = parted o
  own_term (truth p b) o = parted o
  own_term (variable v) o = parted o
  own_term (bit v j) o = parted o
  own_term (not p e) o = closed (own_term e (opened (parted o)))
  own_term (int p e) o = closed (own_term e (opened (parted o)))
  own_term (arithmetic f p a b) o = own_term b (parted (own_term a o))
  own_term (comparison f p a b) o = own_term b (parted (own_term a o))
  own_term (logic f p a b) o = own_term b (parted (own_term a o))
  own_term (parens e) o = closed (own_term e (opened o))
  own_term (instead e) o = closed (own_term e (opened o))
  own_term (no_name p) o = parted o

  unfoldable mutual
    pub own_command : Command → Own → Own
    own_command (skip p) o = begun o
    own_command (delay p q n) o = if_large (ltb most_delay n) (begun o)
    own_command (change p c t) o = closed (opened (begun o))
    own_command (assign v e) o = own_term e (begun o)
    own_command (choice p e a b) o = closed (own_all b (own_all a (own_term e (opened (begun o)))))
    own_command (while p e b) o = closed (own_all b (own_term e (opened (begun o))))
    own_command (loop p b) o = closed (own_all b (opened (begun o)))
    own_command (exit p) o = begun o
    own_command (break p) o = begun o
    own_command (switch p ts) o = closed (own_tests ts (opened (begun o)))
    own_command (parallel p bs) o = if_large (ltb most_activities (activities_sum (base_each bs))) (closed (own_each bs (opened (begun o))))
    own_command (call v ts) o = begun o
    own_command (passing p k) o = if_large (ltb most_activities k) (begun_often k (begun o))

    pub own_all : Commands → Own → Own
    own_all end o = o
    own_all (l ⨾ ls) o = own_all ls (own_command l o)

    pub own_tests : Tests → Own → Own
    own_tests (default d) o = own_all d o
    own_tests (case p e b ts) o = own_tests ts (own_all b (own_term e o))

    pub own_each : Strands → Own → Own
    own_each unexpanded.none o = o
    own_each (b ∥ bs) o = own_each bs (own_all b o)

-- what a reader may give that stops as soon as it is over: over where f is, and else what f gives
pub record Agrees (f : Own → Own) (o r : Own) : Type 0 where
  pub same_over : r.over ≡ (f o).over
  pub exact : r.over ≡ false → r ≡ f o
