-- The statements and case tests of a tree in text order, and the parts of its expressions.
-- Assumes nothing.
use Rattle.std.specs.Prelude.{ℕ, List, [], ◌∷◌, ◌++◌}
use Rattle.meaning.specs.Tree.{Name, Expr, literal, truth, variable, bit, not, int, arithmetic, comparison, logic, Head, Stmt, skip, delay, change, assign, choice, while, loop, exit, break, switch, parallel, Stmts, end, ◌⨾◌, Cases, default, case, Branches, none, ◌∥◌}

pub data Item : Type 0 where
  statement : Stmt Name → Item
  test : Head → Expr Name → Item

-- Z5: a compound comes before what it holds
unfoldable mutual
  pub items : Stmt Name → List Item
  items (skip h) = statement (skip h) ∷ []
  items (delay h p n) = statement (delay h p n) ∷ []
  items (change h c t) = statement (change h c t) ∷ []
  items (assign h v e) = statement (assign h v e) ∷ []
  items (choice h e a b) = statement (choice h e a b) ∷ (items_all a ++ items_all b)
  items (while h e b) = statement (while h e b) ∷ items_all b
  items (loop h b) = statement (loop h b) ∷ items_all b
  items (exit h) = statement (exit h) ∷ []
  items (break h) = statement (break h) ∷ []
  items (switch h cs) = statement (switch h cs) ∷ items_cases cs
  items (parallel h bs) = statement (parallel h bs) ∷ items_each bs

  pub items_all : Stmts Name → List Item
  items_all end = []
  items_all (s ⨾ ss) = items s ++ items_all ss

  pub items_cases : Cases Name → List Item
  items_cases (default d) = items_all d
  items_cases (case h e b cs) = test h e ∷ (items_all b ++ items_cases cs)

  pub items_each : Branches Name → List Item
  items_each none = []
  items_each (b ∥ bs) = items_all b ++ items_each bs

-- Z6: all expressions inside an expression, in text order: left operand, operator, right operand
unfoldable pub within : Expr Name → List (Expr Name)
within (literal p n) = literal p n ∷ []
within (truth p b) = truth p b ∷ []
within (variable v) = variable v ∷ []
within (bit v j) = bit v j ∷ []
within (not p e) = not p e ∷ within e
within (int p e) = int p e ∷ within e
within (arithmetic o p a b) = within a ++ (arithmetic o p a b ∷ within b)
within (comparison o p a b) = within a ++ (comparison o p a b ∷ within b)
within (logic o p a b) = within a ++ (logic o p a b ∷ within b)

-- an item's own expression
abbrev pub own_of : Stmt Name → List (Expr Name)
own_of (skip h) = []
own_of (delay h p n) = []
own_of (change h c t) = []
own_of (assign h v e) = within e
own_of (choice h e a b) = within e
own_of (while h e b) = within e
own_of (loop h b) = []
own_of (exit h) = []
own_of (break h) = []
own_of (switch h cs) = []
own_of (parallel h bs) = []

abbrev pub own : Item → List (Expr Name)
own (statement s) = own_of s
own (test h e) = within e

-- Z6: every part of every expression in text order
unfoldable pub parts_of : List Item → List (Expr Name)
parts_of [] = []
parts_of (i ∷ is) = own i ++ parts_of is

-- where a part stands
abbrev pub place_of : Expr Name → ℕ
place_of (literal p n) = p
place_of (truth p b) = p
place_of (variable v) = v.place
place_of (bit v j) = v.place
place_of (not p e) = p
place_of (int p e) = p
place_of (arithmetic o p a b) = p
place_of (comparison o p a b) = p
place_of (logic o p a b) = p
