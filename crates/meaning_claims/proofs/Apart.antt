-- In no clock of any statement list is a bit tried with both values.
-- Assumes nothing.
use mathlib.Core.Path.{refl}
use mathlib.Core.Bool.{true}
use mathlib.Core.List.{List}
use Rattle.meaning.specs.Tree.{Target, Stmt, skip, delay, change, assign, choice, while, loop, exit, break, switch, parallel, Stmts, end, ◌⨾◌, Cases, default, case, Branches, none, ◌∥◌}
use Rattle.meaning.specs.Numbers.{Variable, Reads}
use Rattle.meaning.specs.Clock.{Entry, resume_all}
use Rattle.meaning.proofs.Tries.{Apart, none_apart, agreed-apart, change-apart, assign-apart}
use Rattle.meaning.proofs.Tried.{Within, WithinAll, WithinCases, WithinEach, Tried, on_resume-all}

module _ (C : Target Variable → Type 0) (A : Variable → Type 0) (c : (t : Target Variable) → C t) (a : (v : Variable) → A v) where
  mutual
    unfolding Within

    within : (s : Stmt Variable) → Within s C A true true
    within (skip h) = tt
    within (delay h p n) = tt
    within (change h x t) = c t
    within (assign h v e) = a v
    within (choice h e x y) = (within_all x, within_all y)
    within (while h e b) = within_all b
    within (loop h b) = within_all b
    within (exit h) = refl
    within (break h) = refl
    within (switch h cs) = within_cases cs
    within (parallel h bs) = within-each bs

    within_all : (ss : Stmts Variable) → WithinAll ss C A true true
    within_all end = tt
    within_all (s ⨾ ss) = (within s, within_all ss)

    within_cases : (cs : Cases Variable) → WithinCases cs C A true true
    within_cases (default d) = within_all d
    within_cases (case h e b cs) = (within_all b, within_cases cs)

    within-each : (bs : Branches Variable) → WithinEach bs C A true true
    within-each none = tt
    within-each (b ∥ bs) = (within_all b, within-each bs)

pub clock_apart : (ss : Stmts Variable) (es : List Entry) (r : Reads) → Tried Apart true true (resume_all ss es r)
clock_apart ss es r =
    on_resume-all (λ t. Unit {0}) (λ v. Unit {0}) Apart none_apart
    (λ c t q w. change-apart c t q)
    (λ v e q w. assign-apart v e q)
    (λ ts p. agreed-apart ts)
    ss es r
    (within_all (λ t. Unit {0}) (λ v. Unit {0}) (λ t. tt) (λ v. tt) ss)
