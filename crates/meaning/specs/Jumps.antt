-- N9: a jump with nothing to leave, fault 8 at its word.
-- Assumes nothing.
use Rattle.std.specs.Prelude.{ℕ, Bool, true, false, not as opposite, List, [], ◌++◌}
use Rattle.meaning.specs.Tree.{Name, Stmt, skip, delay, change, assign, choice, while, loop, exit, break, switch, parallel, Stmts, end, ◌⨾◌, Cases, default, case, Branches, none, ◌∥◌}
use Rattle.meaning.specs.Declared.{Source}
use Rattle.meaning.specs.Names.{when}

-- inside a loop (for `exit`), and inside a switch or a parallel (for `break`)
unfoldable mutual
  pub jump_in : Stmt Name → Bool → Bool → List ℕ
  jump_in (skip h) l b = []
  jump_in (delay h p n) l b = []
  jump_in (change h c t) l b = []
  jump_in (assign h v e) l b = []
  jump_in (choice h e x y) l b = jump_all x l b ++ jump_all y l b
  jump_in (while h e x) l b = jump_all x true b
  jump_in (loop h x) l b = jump_all x true b
  jump_in (exit h) l b = when (opposite l) h.place
  jump_in (break h) l b = when (opposite b) h.place
  jump_in (switch h cs) l b = jump_cases cs l true
  jump_in (parallel h bs) l b = jump_each bs l true

  pub jump_all : Stmts Name → Bool → Bool → List ℕ
  jump_all end l b = []
  jump_all (s ⨾ ss) l b = jump_in s l b ++ jump_all ss l b

  pub jump_cases : Cases Name → Bool → Bool → List ℕ
  jump_cases (default d) l b = jump_all d l b
  jump_cases (case h e x cs) l b = jump_all x l b ++ jump_cases cs l b

  pub jump_each : Branches Name → Bool → Bool → List ℕ
  jump_each none l b = []
  jump_each (x ∥ bs) l b = jump_all x l b ++ jump_each bs l b

abbrev pub jump_faults : Source → List ℕ
jump_faults s = jump_all s.body false false
