-- P3, P7, P12 and P13: the faults that procedures add, and the fault of a program before its expansion.
-- Assumes nothing.
use Rattle.std.specs.Prelude.{ℕ, Bool, true, false, cond, List, [], ◌∷◌, ◌++◌}
use Rattle.std.proofs.Math.Option.{Option}
use Rattle.meaning.specs.Tree.{Name}
use Rattle.meaning.specs.Declared.{name_of, same_bytes}
use Rattle.meaning.specs.Names.{when}
use Rattle.meaning.specs.Faults.{Fault, fault_with}
use Rattle.meaning.specs.Unexpanded.{Command, skip, delay, change, assign, choice, while, loop, exit, break, switch, parallel, call, passing, Commands, end, ◌⨾◌, Tests, default, case, Strands, none, ◌∥◌, DeclaredName, a_variable, a_procedure, Unexpanded}
use Rattle.meaning.specs.Levels.{level_faults}
use Rattle.meaning.specs.Expansion.{expanded_body, expanded}

unfoldable pub has_name : List (List ℕ) → List ℕ → Bool
has_name [] x = false
has_name (y ∷ ys) x = cond (same_bytes y x) true (has_name ys x)

-- P3: formals that have a name again
unfoldable pub formals_again : List (List ℕ) → List Name → List ℕ
formals_again names [] = []
formals_again names (f ∷ fs) = when (has_name names f.bytes) f.place ++ formals_again (f.bytes ∷ names) fs

-- P3, N2: declared again, where a procedure is one of the two; two variables are told by Names
unfoldable pub clashes : List (List ℕ) → List (List ℕ) → List DeclaredName → List ℕ
clashes names procedures [] = []
clashes names procedures (a_variable d ∷ ds) =
    when (has_name procedures (name_of d).bytes) (name_of d).place ++ clashes ((name_of d).bytes ∷ names) procedures ds
clashes names procedures (a_procedure p ∷ ds) =
    when (has_name names p.name.bytes) p.name.place
    ++ (formals_again (p.name.bytes ∷ names) p.formals
    ++ clashes (p.name.bytes ∷ names) (p.name.bytes ∷ procedures) ds)

-- what an expansion leaves of calls, in text order
module _ (of_call : Name → List ℕ) (of_passing : ℕ → List ℕ) where
  unfoldable mutual
    pub found_in : Command → List ℕ
    found_in (skip p) = []
    found_in (delay p q n) = []
    found_in (change p c t) = []
    found_in (assign v e) = []
    found_in (choice p e a b) = found_all a ++ found_all b
    found_in (while p e b) = found_all b
    found_in (loop p b) = found_all b
    found_in (exit p) = []
    found_in (break p) = []
    found_in (switch p ts) = found_tests ts
    found_in (parallel p bs) = found_each bs
    found_in (call v ts) = of_call v
    found_in (passing p k) = of_passing p

    pub found_all : Commands → List ℕ
    found_all end = []
    found_all (l ⨾ ls) = found_in l ++ found_all ls

    pub found_tests : Tests → List ℕ
    found_tests (default d) = found_all d
    found_tests (case p e b ts) = found_all b ++ found_tests ts

    pub found_each : Strands → List ℕ
    found_each none = []
    found_each (b ∥ bs) = found_all b ++ found_each bs

-- P7: fault 6
abbrev pub calls_refused : Commands → List ℕ
calls_refused = found_all (λ v. v.place ∷ []) (λ p. [])

-- P13: fault 9
abbrev pub calls_passing : Commands → List ℕ
calls_passing = found_all (λ v. []) (λ p. p ∷ [])

-- the places of fault 6, and of fault 9, that procedures add
abbrev pub added_names : Unexpanded → List ℕ
added_names w = clashes [] [] w.declared ++ calls_refused (expanded_body w)

abbrev pub added_sizes : Unexpanded → List ℕ
added_sizes w = calls_passing (expanded_body w) ++ level_faults 0 (expanded_body w)

-- P10, R1: all else is the expanded program's
unfoldable pub fault_in : Unexpanded → Option Fault
fault_in w = fault_with (added_names w) (added_sizes w) (expanded w)
