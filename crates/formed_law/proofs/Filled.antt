-- "A statement list is one or more statements": those of cases and branches.
-- Assumes nothing.
use Prim.Native.Nat.{◌≤◌}
use native.Mathlib.Omega.{arith}
use lib.ListN.{length, length-append}
use Rattle.meaning.specs.Tree.{Name, Stmt, skip, delay, change, assign, choice, while, loop, exit, break, switch, parallel, Stmts, end, ◌⨾◌, Cases, default, case, Branches, none, ◌∥◌}
use Rattle.meaning.specs.Items.{items, items_all}

abbrev pub Some : Stmts Name → Type 0
Some end = ⊥
Some (s ⨾ ss) = Unit {0}

unfoldable mutual
  pub Filled : Stmt Name → Type 0
  Filled (skip h) = Unit {0}
  Filled (delay h p n) = Unit {0}
  Filled (change h c t) = Unit {0}
  Filled (assign h v e) = Unit {0}
  Filled (choice h e a b) = FilledAll a × FilledAll b
  Filled (while h e b) = FilledAll b
  Filled (loop h b) = FilledAll b
  Filled (exit h) = Unit {0}
  Filled (break h) = Unit {0}
  Filled (switch h cs) = FilledCases cs
  Filled (parallel h bs) = FilledEach bs

  pub FilledAll : Stmts Name → Type 0
  FilledAll end = Unit {0}
  FilledAll (s ⨾ ss) = Filled s × FilledAll ss

  pub FilledCases : Cases Name → Type 0
  FilledCases (default d) = FilledAll d
  FilledCases (case h e b cs) = Some b × (FilledAll b × FilledCases cs)

  pub FilledEach : Branches Name → Type 0
  FilledEach none = Unit {0}
  FilledEach (b ∥ bs) = Some b × (FilledAll b × FilledEach bs)

-- a statement is an item
pub one_item : (s : Stmt Name) → 1 ≤ length (items s)
unfolding items
one_item (skip h) = omega arith
one_item (delay h p n) = omega arith
one_item (change h c t) = omega arith
one_item (assign h v e) = omega arith
one_item (choice h e a b) = omega arith
one_item (while h e b) = omega arith
one_item (loop h b) = omega arith
one_item (exit h) = omega arith
one_item (break h) = omega arith
one_item (switch h cs) = omega arith
one_item (parallel h bs) = omega arith

pub some-items : (v : Stmts Name) → Some v → 1 ≤ length (items_all v)
unfolding items
some-items end e = absurd e
some-items (s ⨾ ss) e = omega (arith, one_item s, length-append (items s) (items_all ss))
