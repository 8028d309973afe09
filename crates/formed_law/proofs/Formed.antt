-- The expanded program of a text has a statement in each list of a case or a branch, and no number above 65,535.
-- Assumes nothing.
use mathlib.Core.List.{List, [], ◌∷◌, ◌++◌}
use Prim.Native.Nat.{ℕ, zero, suc}
use native.Mathlib.Omega.{arith}
use Rattle.meaning.specs.Declared.{Source}
use Rattle.meaning.specs.Items.{items, items_all, items_cases, items_each}
use Rattle.meaning.specs.Unexpanded.{Term, literal, truth, variable, bit, not, int, arithmetic, comparison, logic, parens, instead, no_name, Command, skip, delay, change, assign, choice, while, loop, exit, break, switch, parallel, call, passing, Commands, end, ◌⨾◌, Tests, default, case, Strands, ◌∥◌, Unexpanded}
use Rattle.meaning.specs.Unexpanded as unexpanded
use Rattle.meaning.specs.Base.{base_term, idle, base, base_all, base_tests, base_each}
use Rattle.meaning.specs.Expansion.{expanded}
use Rattle.language.specs.Texts.{good, Reads, fine}
use Rattle.kept_law.specs.Kept.{Every, LowTerm, Some as SomeOf, Kept, KeptAll, KeptTests, KeptEach, KeptProgram}
use Rattle.kept_law.proofs.Words.{words-low}
use Rattle.kept_law.proofs.Texts.{program-kept}
use Rattle.kept_law.proofs.Expanded.{expanded-kept}
use Rattle.expr_law.proofs.Sizes.{Small}
use Rattle.stmts_law.proofs.Faults.{SmallItem}
use Rattle.formed_law.proofs.Filled.{Some, Filled, FilledAll, FilledCases, FilledEach}

every-both : {A : Type 0} (P : A → Type 0) (a b : List A) → Every P a → Every P b → Every P (a ++ b)
every-both P [] b x y = y
every-both P (i ∷ a) b x y = (x.0, every-both P a b x.1 y)

small_term : (e : Term) → LowTerm e → Small (base_term e)
unfolding LowTerm base_term
small_term (literal p n) x = omega (arith, x.1)
small_term (truth p b) x = tt
small_term (variable v) x = tt
small_term (bit v j) x = tt
small_term (not p e) x = small_term e x.1
small_term (int p e) x = small_term e x.1
small_term (arithmetic o p a b) x = (small_term a x.1.0, small_term b x.1.1)
small_term (comparison o p a b) x = (small_term a x.1.0, small_term b x.1.1)
small_term (logic o p a b) x = (small_term a x.1.0, small_term b x.1.1)
small_term (parens e) x = small_term e x
small_term (instead e) x = small_term e x
small_term (no_name p) x = tt

some-base : (x : Commands) → SomeOf x → Some (base_all x)
unfolding base
some-base end e = absurd e
some-base (l ⨾ ls) e = tt

idle-filled : (p k : ℕ) → FilledEach (idle p k) × Every SmallItem (items_each (idle p k))
unfolding idle items Filled
idle-filled p zero = (tt, tt)
idle-filled p (suc k) = let (a, b) = idle-filled p k in ((tt, ((tt, tt), a)), (tt, b))

mutual
  unfolding base items Filled Kept

  one_formed : (c : Command) → Kept c → Filled (base c) × Every SmallItem (items (base c))
  one_formed (skip p) x = (tt, (tt, tt))
  one_formed (delay p q n) x = (tt, (tt, tt))
  one_formed (change p c t) x = (tt, (tt, tt))
  one_formed (assign v e) x = (tt, (small_term e x.1, tt))
  one_formed (choice p e a b) (h, (x, (y, z))) =
      let (f, g) = all_formed a y in
      let (j, k) = all_formed b z in
      ((f, j), (small_term e x, every-both SmallItem (items_all (base_all a)) (items_all (base_all b)) g k))
  one_formed (while p e b) (h, (x, y)) = let (f, g) = all_formed b y in (f, (small_term e x, g))
  one_formed (loop p b) (h, x) = let (f, g) = all_formed b x in (f, (tt, g))
  one_formed (exit p) x = (tt, (tt, tt))
  one_formed (break p) x = (tt, (tt, tt))
  one_formed (switch p ts) (h, x) = let (f, g) = tests_formed ts x in (f, (tt, g))
  one_formed (parallel p bs) (h, x) = let (f, g) = each_formed bs x in (f, (tt, g))
  one_formed (call v ts) x = (tt, (tt, tt))
  one_formed (passing p k) x = let (f, g) = idle-filled p k in (f, (tt, g))

  all_formed : (x : Commands) → KeptAll x → FilledAll (base_all x) × Every SmallItem (items_all (base_all x))
  all_formed end x = (tt, tt)
  all_formed (l ⨾ ls) (x, y) =
      let (f, g) = one_formed l x in
      let (j, k) = all_formed ls y in
      ((f, j), every-both SmallItem (items (base l)) (items_all (base_all ls)) g k)

  tests_formed : (ts : Tests) → KeptTests ts → FilledCases (base_tests ts) × Every SmallItem (items_cases (base_tests ts))
  tests_formed (default d) x = all_formed d x
  tests_formed (case p e b ts) (h, (x, (s, (y, z)))) =
      let (f, g) = all_formed b y in
      let (j, k) = tests_formed ts z in
      ((some-base b s, (f, j)), (small_term e x, every-both SmallItem (items_all (base_all b)) (items_cases (base_tests ts)) g k))

  each_formed : (bs : Strands) → KeptEach bs → FilledEach (base_each bs) × Every SmallItem (items_each (base_each bs))
  each_formed unexpanded.none x = (tt, tt)
  each_formed (b ∥ bs) (s, (x, y)) =
      let (f, g) = all_formed b x in
      let (j, k) = each_formed bs y in
      ((some-base b s, (f, j)), every-both SmallItem (items_all (base_all b)) (items_each (base_each bs)) g k)

-- a source as a text gives it
pub record Formed (s : Source) : Type 0 where
  pub filled : FilledAll s.body
  pub small : Every SmallItem (items_all s.body)

pub formed_kept : (w : Unexpanded) → KeptProgram w → Formed (expanded w)
unfolding expanded
formed_kept w k =
    let (a, b) = all_formed _ (expanded-kept w k) in
    record { filled = a; small = b }

pub formed : {text : List ℕ} {s : Source} → Reads text (good s) → Formed s
formed {text} (fine {ws = ws} h c d e) = formed_kept _ (program-kept ws d (words-low text ws h c))
