-- The expanded body of a short text has its places and its numbers.
-- Assumes nothing.
use mathlib.Core.List.{List}
use Prim.Native.Nat.{ℕ, zero, suc}
use Rattle.ll1.specs.Grammar.{Sentence}
use Rattle.meaning.specs.Unexpanded.{Term, literal, truth, variable, bit, not, int, arithmetic, comparison, logic, parens, instead, no_name, Command, skip, delay, change, assign, choice, while, loop, exit, break, switch, parallel, call, passing, Commands, end, ◌⨾◌, Tests, default, case, Strands, ◌∥◌}
use Rattle.meaning.specs.Unexpanded as unexpanded
use Rattle.meaning.specs.Tree.{Target, whole, part, Name}
use Rattle.meaning.specs.Base.{base_term, idle, base, base_all, base_tests, base_each}
use Rattle.meaning.specs.Expansion.{expanded}
use Rattle.language.specs.Words.{Word}
use Rattle.language.specs.Grammar.{csml, most_levels, whole_program, kinds}
use Rattle.language.specs.Trees.{source_of}
use Rattle.kept_law.specs.Kept.{Every, Near, LowWord, LowTerm, LowTarget as LowTargetOf, Kept, KeptAll, KeptTests, KeptEach}
use Rattle.kept_law.proofs.Texts.{program-kept}
use Rattle.kept_law.proofs.Expanded.{expanded-kept}
use Rattle.places_law.specs.Places.{LowExpr, LowTarget, LowStmt, LowAll, LowCases, LowEach}

term_low : (e : Term) → LowTerm e → LowExpr (base_term e)
unfolding LowTerm base_term LowExpr
term_low (literal p n) x = x
term_low (truth p b) x = x
term_low (variable v) x = x
term_low (bit v j) x = x
term_low (not p e) x = (x.0, term_low e x.1)
term_low (int p e) x = (x.0, term_low e x.1)
term_low (arithmetic o p a b) x = (x.0, (term_low a x.1.0, term_low b x.1.1))
term_low (comparison o p a b) x = (x.0, (term_low a x.1.0, term_low b x.1.1))
term_low (logic o p a b) x = (x.0, (term_low a x.1.0, term_low b x.1.1))
term_low (parens e) x = term_low e x
term_low (instead e) x = term_low e x
term_low (no_name p) x = x

target-low : (t : Target Name) → LowTargetOf t → LowTarget t
target-low (whole v) x = x
target-low (part v j) x = x

idle-low : (p k : ℕ) → Near p → LowEach (idle p k)
unfolding idle LowStmt
idle-low p zero h = tt
idle-low p (suc k) h = ((h, tt), idle-low p k h)

mutual
  unfolding base LowStmt Kept

  one-low : (c : Command) → Kept c → LowStmt (base c)
  one-low (skip p) x = x
  one-low (delay p q n) x = x
  one-low (change p c t) (h, x) = (h, target-low t x)
  one-low (assign v e) (h, x) = (h, (h, term_low e x))
  one-low (choice p e a b) (h, (x, (y, z))) = (h, (term_low e x, (base-low a y, base-low b z)))
  one-low (while p e b) (h, (x, y)) = (h, (term_low e x, base-low b y))
  one-low (loop p b) (h, x) = (h, base-low b x)
  one-low (exit p) x = x
  one-low (break p) x = x
  one-low (switch p ts) (h, x) = (h, tests-low ts x)
  one-low (parallel p bs) (h, x) = (h, each-low bs x)
  one-low (call v ts) (h, x) = h
  one-low (passing p k) h = (h, idle-low p k h)

  pub base-low : (x : Commands) → KeptAll x → LowAll (base_all x)
  base-low end x = tt
  base-low (l ⨾ ls) (x, y) = (one-low l x, base-low ls y)

  tests-low : (ts : Tests) → KeptTests ts → LowCases (base_tests ts)
  tests-low (default d) x = base-low d x
  tests-low (case p e b ts) (h, (x, (s, (y, z)))) = (h, (term_low e x, (base-low b y, tests-low ts z)))

  each-low : (bs : Strands) → KeptEach bs → LowEach (base_each bs)
  each-low unexpanded.none x = tt
  each-low (b ∥ bs) (s, (x, y)) = (base-low b x, each-low bs y)

-- by the words of the text
pub body-low : (ws : List Word) (d : Sentence csml most_levels whole_program (kinds ws)) → Every LowWord ws → LowAll (expanded (source_of ws d)).body
unfolding expanded
body-low ws d q = base-low _ (expanded-kept (source_of ws d) (program-kept ws d q))
