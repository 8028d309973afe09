-- P12: levels after expansion, fault 9.
-- Assumes nothing.
use Rattle.std.specs.Prelude.{ℕ, suc, ◌+◌, max, List, [], ◌++◌, ltb}
use Rattle.meaning.specs.Names.{when}
use Rattle.meaning.specs.Unexpanded.{Term, literal, truth, variable, bit, not, int, arithmetic, comparison, logic, parens, instead, no_name, Command, skip, delay, change, assign, choice, while, loop, exit, break, switch, parallel, call, passing, Commands, end, ◌⨾◌, Tests, default, case, Strands, none, ◌∥◌}

-- Z9
abbrev pub most_levels : ℕ
most_levels = 32

-- G9, P5: the most levels that are open at once in an expression
unfoldable pub levels_in : Term → ℕ
levels_in (literal p n) = 0
levels_in (truth p b) = 0
levels_in (variable v) = 0
levels_in (bit v j) = 0
levels_in (not p e) = suc (levels_in e)
levels_in (int p e) = suc (levels_in e)
levels_in (arithmetic o p a b) = max (levels_in a) (levels_in b)
levels_in (comparison o p a b) = max (levels_in a) (levels_in b)
levels_in (logic o p a b) = max (levels_in a) (levels_in b)
levels_in (parens e) = suc (levels_in e)
levels_in (instead e) = suc (levels_in e)
levels_in (no_name p) = 0

abbrev pub too_deep : ℕ → ℕ → List ℕ
too_deep levels p = when (ltb most_levels levels) p

-- G9, P12: the statements and case tests that open a level too many, with n open around them
unfoldable mutual
  pub level_fault : ℕ → Command → List ℕ
  level_fault n (skip p) = []
  level_fault n (delay p q d) = []
  level_fault n (change p c t) = too_deep (suc n) p
  level_fault n (assign v e) = too_deep (n + levels_in e) v.place
  level_fault n (choice p e a b) = too_deep (suc n + levels_in e) p ++ (level_faults (suc n) a ++ level_faults (suc n) b)
  level_fault n (while p e b) = too_deep (suc n + levels_in e) p ++ level_faults (suc n) b
  level_fault n (loop p b) = too_deep (suc n) p ++ level_faults (suc n) b
  level_fault n (exit p) = []
  level_fault n (break p) = []
  level_fault n (switch p ts) = too_deep (suc n) p ++ level_tests (suc n) ts
  level_fault n (parallel p bs) = too_deep (suc n) p ++ level_each (suc n) bs
  level_fault n (call v ts) = []
  level_fault n (passing p k) = []

  pub level_faults : ℕ → Commands → List ℕ
  level_faults n end = []
  level_faults n (l ⨾ ls) = level_fault n l ++ level_faults n ls

  pub level_tests : ℕ → Tests → List ℕ
  level_tests n (default d) = level_faults n d
  level_tests n (case p e b ts) = too_deep (n + levels_in e) p ++ (level_faults n b ++ level_tests n ts)

  pub level_each : ℕ → Strands → List ℕ
  level_each n none = []
  level_each n (b ∥ bs) = level_faults n b ++ level_each n bs
