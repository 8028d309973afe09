-- From an expansion to the tree of a program without procedures; parentheses leave no trace there.
-- Assumes nothing.
use Rattle.std.specs.Prelude.{ℕ, zero, suc}
use Rattle.meaning.specs.Tree as tree
use Rattle.meaning.specs.Tree.{Name, Expr, Head, Stmt, Stmts, Cases, Branches}
use Rattle.meaning.specs.Unexpanded.{Term, literal, truth, variable, bit, not, int, arithmetic, comparison, logic, parens, instead, no_name, Command, skip, delay, change, assign, choice, while, loop, exit, break, switch, parallel, call, passing, Commands, end, ◌⨾◌, Tests, default, case, Strands, ◌∥◌, nameless}
use Rattle.meaning.specs.Unexpanded as unexpanded

unfoldable pub base_term : Term → Expr Name
base_term (literal p n) = tree.literal p n
base_term (truth p b) = tree.truth p b
base_term (variable v) = tree.variable v
base_term (bit v j) = tree.bit v j
base_term (not p e) = tree.not p (base_term e)
base_term (int p e) = tree.int p (base_term e)
base_term (arithmetic o p a b) = tree.arithmetic o p (base_term a) (base_term b)
base_term (comparison o p a b) = tree.comparison o p (base_term a) (base_term b)
base_term (logic o p a b) = tree.logic o p (base_term a) (base_term b)
base_term (parens e) = base_term e
base_term (instead e) = base_term e
base_term (no_name p) = tree.variable (nameless p)

-- a statement is numbered when the program is checked
abbrev pub head_at : ℕ → Head
head_at p = record { place = p; number = 0 }

-- P14: so many branches
unfoldable pub idle : ℕ → ℕ → Branches Name
idle p zero = tree.none
idle p (suc k) = tree.◌∥◌ (tree.◌⨾◌ (tree.skip (head_at p)) tree.end) (idle p k)

-- P7: a refused call counts as one statement
unfoldable mutual
  pub base : Command → Stmt Name
  base (skip p) = tree.skip (head_at p)
  base (delay p q n) = tree.delay (head_at p) q n
  base (change p c t) = tree.change (head_at p) c t
  base (assign v e) = tree.assign (head_at v.place) v (base_term e)
  base (choice p e a b) = tree.choice (head_at p) (base_term e) (base_all a) (base_all b)
  base (while p e b) = tree.while (head_at p) (base_term e) (base_all b)
  base (loop p b) = tree.loop (head_at p) (base_all b)
  base (exit p) = tree.exit (head_at p)
  base (break p) = tree.break (head_at p)
  base (switch p ts) = tree.switch (head_at p) (base_tests ts)
  base (parallel p bs) = tree.parallel (head_at p) (base_each bs)
  base (call v ts) = tree.skip (head_at v.place)
  base (passing p k) = tree.parallel (head_at p) (idle p k)

  pub base_all : Commands → Stmts Name
  base_all end = tree.end
  base_all (l ⨾ ls) = tree.◌⨾◌ (base l) (base_all ls)

  pub base_tests : Tests → Cases Name
  base_tests (default d) = tree.default (base_all d)
  base_tests (case p e b ts) = tree.case (head_at p) (base_term e) (base_all b) (base_tests ts)

  pub base_each : Strands → Branches Name
  base_each unexpanded.none = tree.none
  base_each (b ∥ bs) = tree.◌∥◌ (base_all b) (base_each bs)
