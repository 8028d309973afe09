-- Checking keeps places: each statement, case test and part of a checked program stands where it stood in the text.
-- Assumes nothing.
use mathlib.Core.Path.{◌≡◌, refl}
use Prim.Native.Nat.{ℕ}
use Rattle.meaning.specs.Tree.{Name, Expr, literal, truth, variable, bit, not, int, arithmetic, comparison, logic, Head, Stmt, skip, delay, change, assign, choice, while, loop, exit, break, switch, parallel, Stmts, Cases, default, case}
use Rattle.meaning.specs.Numbers.{Variable}
use Rattle.meaning.specs.Clock.{head_of}
use Rattle.meaning.specs.Checked.{resolved, checked, checked_cases}

pub head-placed : (s : Stmt Name) (look : Name → Variable) (n : ℕ) → (head_of (checked s look n)).place ≡ (head_of s).place
unfolding checked
head-placed (skip h) look n = refl
head-placed (delay h p d) look n = refl
head-placed (change h c t) look n = refl
head-placed (assign h v e) look n = refl
head-placed (choice h e a b) look n = refl
head-placed (while h e b) look n = refl
head-placed (loop h b) look n = refl
head-placed (exit h) look n = refl
head-placed (break h) look n = refl
head-placed (switch h cs) look n = refl
head-placed (parallel h bs) look n = refl

-- the place of an operator, of a literal, of `int`; a name has none any more
abbrev pub own : {N : Type 0} → Expr N → ℕ
own (literal p n) = p
own (truth p b) = p
own (variable v) = 0
own (bit v j) = 0
own (not p e) = p
own (int p e) = p
own (arithmetic o p a b) = p
own (comparison o p a b) = p
own (logic o p a b) = p

pub part_placed : (e : Expr Name) (look : Name → Variable) → own (resolved e look) ≡ own e
unfolding resolved
part_placed (literal p n) look = refl
part_placed (truth p b) look = refl
part_placed (variable v) look = refl
part_placed (bit v j) look = refl
part_placed (not p e) look = refl
part_placed (int p e) look = refl
part_placed (arithmetic o p a b) look = refl
part_placed (comparison o p a b) look = refl
part_placed (logic o p a b) look = refl

-- the number of a delay, and the head of a test
abbrev delay_place : {N : Type 0} → Stmt N → ℕ
delay_place (skip h) = 0
delay_place (delay h p n) = p
delay_place (change h c t) = 0
delay_place (assign h v e) = 0
delay_place (choice h e a b) = 0
delay_place (while h e b) = 0
delay_place (loop h b) = 0
delay_place (exit h) = 0
delay_place (break h) = 0
delay_place (switch h cs) = 0
delay_place (parallel h bs) = 0

abbrev test_place : {N : Type 0} → Cases N → ℕ
test_place (default d) = 0
test_place (case h e b cs) = h.place

pub record Placed : Type 0 where
  pub delay-placed : (h : Head) (p d n : ℕ) (look : Name → Variable) → delay_place (checked (delay h p d) look n) ≡ p
  pub test-placed : (h : Head) (e : Expr Name) (b : Stmts Name) (cs : Cases Name) (n : ℕ) (look : Name → Variable) → test_place (checked_cases (case h e b cs) look n) ≡ h.place

pub placed : Placed
unfolding checked
placed = record { delay-placed = λ h p d n look. refl; test-placed = λ h e b cs n look. refl }
