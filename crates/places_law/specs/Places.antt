-- The places of a tree are places of a short text, and its literals are numbers that a text can have.
-- Assumes nothing.
use Rattle.std.specs.Prelude.{List, [], ◌∷◌, ℕ, ◌≤◌}
use Rattle.meaning.specs.Tree.{Name, Expr, literal, truth, variable, bit, not, int, arithmetic, comparison, logic, Target, whole, part, Stmt, skip, delay, change, assign, choice, while, loop, exit, break, switch, parallel, Stmts, end, ◌⨾◌, Cases, default, case, Branches, none, ◌∥◌}
use Rattle.meaning.specs.Items.{Item, statement, test}
use Rattle.language.specs.Words.{largest_number}
use Rattle.kept_law.specs.Kept.{Near, LowName}

-- places of a short text, or its end
abbrev pub Low : List ℕ → Type 0
Low [] = Unit
Low (p ∷ ps) = Near p × Low ps

-- an expression of one
unfoldable pub LowExpr : Expr Name → Type 0
LowExpr (literal p n) = Near p × (n ≤ largest_number)
LowExpr (truth p b) = Near p
LowExpr (variable v) = LowName v
LowExpr (bit v j) = LowName v
LowExpr (not p e) = Near p × LowExpr e
LowExpr (int p e) = Near p × LowExpr e
LowExpr (arithmetic o p a b) = Near p × (LowExpr a × LowExpr b)
LowExpr (comparison o p a b) = Near p × (LowExpr a × LowExpr b)
LowExpr (logic o p a b) = Near p × (LowExpr a × LowExpr b)

-- what a statement of one changes
abbrev pub LowTarget : Target Name → Type 0
LowTarget (whole v) = LowName v
LowTarget (part v j) = LowName v

unfoldable mutual
  pub LowStmt : Stmt Name → Type 0
  LowStmt (skip h) = Near h.place
  LowStmt (delay h p n) = Near h.place × Near p
  LowStmt (change h c t) = Near h.place × LowTarget t
  LowStmt (assign h v e) = Near h.place × (LowName v × LowExpr e)
  LowStmt (choice h e a b) = Near h.place × (LowExpr e × (LowAll a × LowAll b))
  LowStmt (while h e b) = Near h.place × (LowExpr e × LowAll b)
  LowStmt (loop h b) = Near h.place × LowAll b
  LowStmt (exit h) = Near h.place
  LowStmt (break h) = Near h.place
  LowStmt (switch h cs) = Near h.place × LowCases cs
  LowStmt (parallel h bs) = Near h.place × LowEach bs

  pub LowAll : Stmts Name → Type 0
  LowAll end = Unit {0}
  LowAll (s ⨾ ss) = LowStmt s × LowAll ss

  pub LowCases : Cases Name → Type 0
  LowCases (default d) = LowAll d
  LowCases (case h e b cs) = Near h.place × (LowExpr e × (LowAll b × LowCases cs))

  pub LowEach : Branches Name → Type 0
  LowEach none = Unit {0}
  LowEach (b ∥ bs) = LowAll b × LowEach bs

-- a statement or a case test of one
abbrev pub LowItem : Item → Type 0
LowItem (statement s) = LowStmt s
LowItem (test h e) = Near h.place × LowExpr e
