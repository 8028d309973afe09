-- The places that procedures add are places of the text.
-- Assumes nothing.
use mathlib.Core.List.{List, [], ◌∷◌, ◌++◌}
use Prim.Native.Nat.{ℕ, suc, ◌+◌}
use lib.Dec.{ltb}
use Rattle.meaning.specs.Tree.{Name}
use Rattle.meaning.specs.Declared.{Declaration, inputs, outputs, internals, integers, name_of}
use Rattle.meaning.specs.Names.{when}
use Rattle.meaning.specs.Unexpanded.{Term, Command, skip, delay, change, assign, choice, while, loop, exit, break, switch, parallel, call, passing, Commands, end, ◌⨾◌, Tests, default, case, Strands, ◌∥◌, Procedure, DeclaredName, a_variable, a_procedure, Unexpanded}
use Rattle.meaning.specs.Unexpanded as unexpanded
use Rattle.meaning.specs.Levels.{most_levels, levels_in, too_deep, level_fault, level_faults, level_tests, level_each}
use Rattle.meaning.specs.Expansion.{expanded_body}
use Rattle.meaning.specs.Procedures.{has_name, formals_again, clashes, found_in, found_all, found_tests, found_each, calls_refused, calls_passing, added_names, added_sizes}
use Rattle.kept_law.specs.Kept.{Every, Near, LowName, LowDeclared, Kept, KeptAll, KeptTests, KeptEach, KeptDeclared, KeptProgram}
use Rattle.kept_law.proofs.Expanded.{expanded-kept}
use Rattle.places_law.specs.Places.{Low}
use Rattle.places_law.proofs.Lists.{low-append, low-when}

-- ---- P3

pub name-low : (d : Declaration) → LowDeclared d → LowName (name_of d)
name-low (inputs n e) x = x
name-low (outputs n e b) x = x
name-low (internals n e b) x = x
name-low (integers n p w v) x = x.0

formals-low : (names : List (List ℕ)) (fs : List Name) → Every LowName fs → Low (formals_again names fs)
unfolding formals_again
formals-low names [] x = tt
formals-low names (f ∷ fs) (h, x) = low-append (when (has_name names f.bytes) f.place) (formals_again (f.bytes ∷ names) fs) (low-when (has_name names f.bytes) f.place h) (formals-low (f.bytes ∷ names) fs x)

pub clashes-low : (names procedures : List (List ℕ)) (ds : List DeclaredName) → Every KeptDeclared ds → Low (clashes names procedures ds)
unfolding clashes
clashes-low names ps [] x = tt
clashes-low names ps (a_variable d ∷ ds) (h, x) =
    low-append (when (has_name ps (name_of d).bytes) (name_of d).place) (clashes ((name_of d).bytes ∷ names) ps ds) (low-when (has_name ps (name_of d).bytes) (name_of d).place (name-low d h)) (clashes-low ((name_of d).bytes ∷ names) ps ds x)
clashes-low names ps (a_procedure p ∷ ds) (h, x) =
    low-append (when (has_name names p.name.bytes) p.name.place) (formals_again (p.name.bytes ∷ names) p.formals ++ clashes (p.name.bytes ∷ names) (p.name.bytes ∷ ps) ds)
    (low-when (has_name names p.name.bytes) p.name.place h.name)
    (low-append (formals_again (p.name.bytes ∷ names) p.formals) (clashes (p.name.bytes ∷ names) (p.name.bytes ∷ ps) ds) (formals-low (p.name.bytes ∷ names) p.formals h.formals) (clashes-low (p.name.bytes ∷ names) (p.name.bytes ∷ ps) ds x))

-- ---- P7, P13

module _ (of_call : Name → List ℕ) (of_passing : ℕ → List ℕ) (call-low : (v : Name) → LowName v → Low (of_call v)) (passing-low : (p : ℕ) → Near p → Low (of_passing p)) where
  mutual
    unfolding found_in Kept

    one_found : (c : Command) → Kept c → Low (found_in of_call of_passing c)
    one_found (skip p) x = tt
    one_found (delay p q n) x = tt
    one_found (change p c t) x = tt
    one_found (assign v e) x = tt
    one_found (choice p e a b) (h, (x, (y, z))) = low-append (found_all of_call of_passing a) (found_all of_call of_passing b) (found-low a y) (found-low b z)
    one_found (while p e b) (h, (x, y)) = found-low b y
    one_found (loop p b) (h, x) = found-low b x
    one_found (exit p) x = tt
    one_found (break p) x = tt
    one_found (switch p ts) (h, x) = tests-found ts x
    one_found (parallel p bs) (h, x) = each-found bs x
    one_found (call v ts) (h, x) = call-low v h
    one_found (passing p k) h = passing-low p h

    found-low : (x : Commands) → KeptAll x → Low (found_all of_call of_passing x)
    found-low end x = tt
    found-low (l ⨾ ls) (x, y) = low-append (found_in of_call of_passing l) (found_all of_call of_passing ls) (one_found l x) (found-low ls y)

    tests-found : (ts : Tests) → KeptTests ts → Low (found_tests of_call of_passing ts)
    tests-found (default d) x = found-low d x
    tests-found (case p e b ts) (h, (x, (s, (y, z)))) = low-append (found_all of_call of_passing b) (found_tests of_call of_passing ts) (found-low b y) (tests-found ts z)

    each-found : (bs : Strands) → KeptEach bs → Low (found_each of_call of_passing bs)
    each-found unexpanded.none x = tt
    each-found (b ∥ bs) (s, (x, y)) = low-append (found_all of_call of_passing b) (found_each of_call of_passing bs) (found-low b x) (each-found bs y)

pub refused-low : (x : Commands) → KeptAll x → Low (calls_refused x)
refused-low x k = found-low (λ v. v.place ∷ []) (λ p. []) (λ v h. (h, tt)) (λ p h. tt) x k

pub passing-low : (x : Commands) → KeptAll x → Low (calls_passing x)
passing-low x k = found-low (λ v. []) (λ p. p ∷ []) (λ v h. tt) (λ p h. (h, tt)) x k

-- ---- P12

deep-low : (levels p : ℕ) → Near p → Low (too_deep levels p)
deep-low levels p h = low-when (ltb most_levels levels) p h

mutual
  unfolding level_fault Kept

  one-deep : (n : ℕ) (c : Command) → Kept c → Low (level_fault n c)
  one-deep n (skip p) x = tt
  one-deep n (delay p q d) x = tt
  one-deep n (change p c t) (h, x) = deep-low (suc n) p h
  one-deep n (assign v e) (h, x) = deep-low (n + levels_in e) v.place h
  one-deep n (choice p e a b) (h, (x, (y, z))) =
      low-append (too_deep (suc n + levels_in e) p) (level_faults (suc n) a ++ level_faults (suc n) b) (deep-low (suc n + levels_in e) p h) (low-append (level_faults (suc n) a) (level_faults (suc n) b) (levels-low (suc n) a y) (levels-low (suc n) b z))
  one-deep n (while p e b) (h, (x, y)) = low-append (too_deep (suc n + levels_in e) p) (level_faults (suc n) b) (deep-low (suc n + levels_in e) p h) (levels-low (suc n) b y)
  one-deep n (loop p b) (h, x) = low-append (too_deep (suc n) p) (level_faults (suc n) b) (deep-low (suc n) p h) (levels-low (suc n) b x)
  one-deep n (exit p) x = tt
  one-deep n (break p) x = tt
  one-deep n (switch p ts) (h, x) = low-append (too_deep (suc n) p) (level_tests (suc n) ts) (deep-low (suc n) p h) (tests-deep (suc n) ts x)
  one-deep n (parallel p bs) (h, x) = low-append (too_deep (suc n) p) (level_each (suc n) bs) (deep-low (suc n) p h) (each-deep (suc n) bs x)
  one-deep n (call v ts) x = tt
  one-deep n (passing p k) x = tt

  pub levels-low : (n : ℕ) (x : Commands) → KeptAll x → Low (level_faults n x)
  levels-low n end x = tt
  levels-low n (l ⨾ ls) (x, y) = low-append (level_fault n l) (level_faults n ls) (one-deep n l x) (levels-low n ls y)

  tests-deep : (n : ℕ) (ts : Tests) → KeptTests ts → Low (level_tests n ts)
  tests-deep n (default d) x = levels-low n d x
  tests-deep n (case p e b ts) (h, (x, (s, (y, z)))) = low-append (too_deep (n + levels_in e) p) (level_faults n b ++ level_tests n ts) (deep-low (n + levels_in e) p h) (low-append (level_faults n b) (level_tests n ts) (levels-low n b y) (tests-deep n ts z))

  each-deep : (n : ℕ) (bs : Strands) → KeptEach bs → Low (level_each n bs)
  each-deep n unexpanded.none x = tt
  each-deep n (b ∥ bs) (s, (x, y)) = low-append (level_faults n b) (level_each n bs) (levels-low n b x) (each-deep n bs y)

-- ---- all of them

pub names-low : (w : Unexpanded) → KeptProgram w → Low (added_names w)
names-low w k = low-append (clashes [] [] w.declared) (calls_refused (expanded_body w)) (clashes-low [] [] w.declared k.declared) (refused-low (expanded_body w) (expanded-kept w k))

pub sizes-low : (w : Unexpanded) → KeptProgram w → Low (added_sizes w)
sizes-low w k = low-append (calls_passing (expanded_body w)) (level_faults 0 (expanded_body w)) (passing-low (expanded_body w) (expanded-kept w k)) (levels-low 0 (expanded_body w) (expanded-kept w k))
