-- Small trees, each computed, so that this crate by itself refuses another clock. The trials of the document stand in crates/trials, as texts.
-- Assumes nothing.
use mathlib.Core.Path.{◌≡◌, refl}
use mathlib.Core.Bool.{true, false}
use mathlib.Core.List.{List, [], ◌∷◌}
use Prim.Native.Nat.{ℕ}
use Rattle.meaning.specs.Tree.{minus, greater, Expr, literal, truth, variable, arithmetic, comparison, raise, lower, invert, Target, whole, Head, Stmt, skip, delay, change, assign, choice, loop, exit, break, switch, parallel, Stmts, end, ◌⨾◌, default, case, none, ◌∥◌}
use Rattle.meaning.specs.Numbers.{Variable, input, boolean, integer, value, holds}
use Rattle.meaning.specs.Tries.{all_ones, all_zeros}
use Rattle.meaning.specs.Clock.{at, activities, some_at, inside, widened, first_jump, each, entries_of, start, resume}
use Rattle.meaning.specs.States.{State, Program, most_activities, start_state, step_state}

-- the number of a statement or case test
abbrev n : ℕ → Head
n i = record { place = i; number = i }

-- the input GO, the booleans L and M, and the integer x of three bits
abbrev GO : Expr Variable
GO = variable (input 0)

abbrev L : Target Variable
L = whole (boolean 0)

abbrev M : Target Variable
M = whole (boolean 1)

abbrev x : Variable
x = integer 0 3

-- `a - b`
abbrev less : Expr Variable → ℕ → Expr Variable
less a b = arithmetic minus 0 a (literal 0 b)

-- a list of one statement, and a parallel of two and of three of them
abbrev only : Stmt Variable → Stmts Variable
only s = s ⨾ end

abbrev two : ℕ → Stmt Variable → Stmt Variable → Stmt Variable
two i a b = parallel (n i) (only a ∥ only b ∥ none)

abbrev three : ℕ → Stmt Variable → Stmt Variable → Stmt Variable → Stmt Variable
three i a b c = parallel (n i) (only a ∥ only b ∥ only c ∥ none)

abbrev machine : Stmts Variable → ℕ → Program
machine body word = record { inputs = 1; outputs = 1; initial = word; body = body }

-- one activity, at the number with so many delay clocks left; and none
abbrev stands : ℕ → ℕ → ℕ → State
stands i left word = record { entries = widened most_activities (at i left ∷ []); word = word }

abbrev ended : ℕ → State
ended word = record { entries = widened most_activities []; word = word }

-- the state after clocks with these inputs
abbrev from : Program → State → List ℕ → State
from p s [] = s
from p s (i ∷ w) = from p (step_state p s i) w

abbrev after : Stmts Variable → ℕ → List ℕ → State
after body word w = from (machine body word) (start_state (machine body word)) w

-- `raise(L) || lower(L)`
abbrev clash : ℕ → Stmt Variable
clash i = two i (change (n 8) raise L) (change (n 9) lower L)

-- `loop parallel A || B endparallel; raise(L) endloop`
abbrev leaving : Stmt Variable → Stmt Variable → Stmts Variable
leaving a b = only (loop (n 0) (two 1 a b ⨾ change (n 2) raise L ⨾ end))

abbrev turns : Stmts Variable
turns = only (loop (n 0) (only (choice (n 1) GO (only (change (n 2) invert L)) end)))

-- a loop whose body has waited when its `if` ends it
abbrev waited : Stmts Variable
waited = only (loop (n 0) (skip (n 1) ⨾ choice (n 2) GO (only (change (n 3) raise L)) end ⨾ end))

-- two true cases and a default
abbrev cases : Stmts Variable
cases =
    only (switch (n 0)
    (case (n 1) (truth 0 true) (only (change (n 2) raise L))
    (case (n 3) (truth 0 true) (only (change (n 4) raise M))
    (default (only (skip (n 5)))))))

pub record Samples : Type 0 where
  -- a loop that waits at itself, and one round of it
  pub turns_not : after turns 0 (0 ∷ []) ≡ stands 0 0 0
  pub turns_once : after turns 0 (0 ∷ 1 ∷ []) ≡ stands 0 0 1
  pub turns-back : after turns 0 (1 ∷ 1 ∷ []) ≡ stands 0 0 0
  pub waits_not_again : after waited 0 (0 ∷ 0 ∷ []) ≡ stands 2 0 0
  pub empty-body : after (only (loop (n 0) end)) 0 (0 ∷ []) ≡ stands 0 0 0
  -- values: 2 - 4 in three bits; below zero before it is cut
  pub cut : after (only (assign (n 0) x (less (variable x) 4))) 2 (0 ∷ []) ≡ ended 6
  pub not_cut : holds (comparison greater 0 (less (variable x) 4) (literal 0 0)) (record { word = 2; inputs = 0 }) ≡ false
  -- tries: both values, inside and outside, and of three branches
  pub both-low : after (only (clash 0)) 0 (0 ∷ []) ≡ ended 0
  pub both_high : after (only (clash 0)) 1 (0 ∷ []) ≡ ended 1
  pub inside : after (only (two 0 (clash 1) (change (n 2) raise L))) 0 (0 ∷ []) ≡ ended 1
  pub of_three : after (only (three 0 (change (n 1) raise L) (change (n 2) lower L) (change (n 3) raise L))) 0 (0 ∷ []) ≡ ended 0
  pub same_reads : after (only (two 0 (change (n 1) raise L) (choice (n 2) (variable (boolean 0)) (only (change (n 3) raise M)) end))) 0 (0 ∷ []) ≡ ended 1
  -- jumps: the first in the text, without the tries
  pub exits : after (leaving (exit (n 3)) (break (n 4))) 0 (0 ∷ []) ≡ ended 0
  pub breaks : after (leaving (break (n 4)) (exit (n 3))) 0 (0 ∷ []) ≡ stands 0 0 1
  pub dropped : after (leaving (change (n 3) raise L) (exit (n 4))) 0 (0 ∷ []) ≡ ended 0
  -- lists, delays and the end
  pub second : after (skip (n 0) ⨾ skip (n 1) ⨾ end) 0 (0 ∷ []) ≡ stands 1 0 0
  pub last : after (skip (n 0) ⨾ skip (n 1) ⨾ end) 0 (0 ∷ 0 ∷ []) ≡ ended 0
  pub for_ever : after (skip (n 0) ⨾ skip (n 1) ⨾ end) 0 (0 ∷ 0 ∷ 0 ∷ []) ≡ ended 0
  pub begun : after (only (delay (n 0) 0 3)) 0 (0 ∷ []) ≡ stands 0 2 0
  pub one_left : after (only (delay (n 0) 0 3)) 0 (0 ∷ 0 ∷ []) ≡ stands 0 1 0
  pub over : after (only (delay (n 0) 0 3)) 0 (0 ∷ 0 ∷ 0 ∷ []) ≡ ended 0
  pub none_at_all : after (only (delay (n 0) 0 0)) 0 (0 ∷ []) ≡ ended 0
  -- tests: the next one, and the default's first statement
  pub next-test : after cases 0 (0 ∷ []) ≡ stands 3 0 1
  pub next-case : after cases 0 (0 ∷ 0 ∷ []) ≡ stands 5 0 3

pub samples : Samples
unfolding value all_ones all_zeros activities some_at inside first_jump each entries_of start resume start_state step_state
samples =
    record {
      turns_not = refl;
      turns_once = refl;
      turns-back = refl;
      waits_not_again = refl;
      empty-body = refl;
      cut = refl;
      not_cut = refl;
      both-low = refl;
      both_high = refl;
      inside = refl;
      of_three = refl;
      same_reads = refl;
      exits = refl;
      breaks = refl;
      dropped = refl;
      second = refl;
      last = refl;
      for_ever = refl;
      begun = refl;
      one_left = refl;
      over = refl;
      none_at_all = refl;
      next-test = refl;
      next-case = refl;
    }
