-- A switch goes on after a true case, and runs its default.
-- Assumes nothing.
use mathlib.Core.Path.{◌≡◌, refl}
use mathlib.Core.Bool.{Bool, true, false, cond}
use mathlib.Core.List.{List}
use mathlib.Core.Logic.{◌⊎◌, inl, inr}
use Prim.Native.Nat.{ℕ}
use native.Mathlib.Omega.{arith}
use Rattle.meaning.specs.Tree.{Expr, Head, Stmts, Cases, default, case}
use Rattle.meaning.specs.Numbers.{Variable, Reads, holds}
use Rattle.meaning.specs.Tries.{Tries}
use Rattle.meaning.specs.Clock.{Entry, After, done, stands, Outcome, finishes, jumps, waits, some_at, inside_all, first, first_case, and_then, finishing, start, start_all, start_cases, resume, resume_all, resume_cases}

-- "each test is made when it is reached, perhaps clocks later; without `break` the default always runs"

pub switch_passes : (h : Head) (t : Expr Variable) (b : Stmts Variable) (cs : Cases Variable) (r : Reads)
    → holds t r ≡ false → start_cases (case h t b cs) r ≡ start_cases cs r
unfolding start
switch_passes h t b cs r y = rw y

pub switch-goes_on : (h : Head) (t : Expr Variable) (b : Stmts Variable) (cs : Cases Variable) (r : Reads)
    → holds t r ≡ true → start_all b r ≡ finishes → start_cases (case h t b cs) r ≡ start_cases cs r
unfolding start
switch-goes_on h t b cs r y e = rw (y, e)

pub switch-goes_on_later : (h : Head) (t : Expr Variable) (b : Stmts Variable) (cs : Cases Variable) (es : List Entry) (r : Reads)
    → some_at h.number es ≡ false → inside_all b es ≡ true → resume_all b es r ≡ finishes
    → resume_cases (case h t b cs) es r ≡ start_cases cs r
unfolding resume
switch-goes_on_later h t b cs es r n i e = rw (n, i, e)

-- a case that ends when its wait does stands at the next test, or at the default's first statement
pub switch-next : (h : Head) (t : Expr Variable) (b : Stmts Variable) (cs : Cases Variable) (r : Reads) (tries : Tries)
    → holds t r ≡ true → start_all b r ≡ waits tries done → start_cases (case h t b cs) r ≡ waits tries (first_case cs)
unfolding start
switch-next h t b cs r tries y e = rw (y, e)

abbrev pub default_of : {N : Type 0} → Cases N → Stmts N
default_of (default d) = d
default_of (case h e b cs) = default_of cs

then_ends : (o next : Outcome) (place : After) → (place ≡ done → ⊥) → finishing (and_then o next place) ≡ true → finishing next ≡ true
then_ends finishes next place n e = e
then_ends (jumps j) next place n e = cc
then_ends (waits t done) next done n e = absurd (n refl)
then_ends (waits t done) next (stands es) n e = cc
then_ends (waits t (stands es)) next place n e = cc

next_place : {N : Type 0} (cs : Cases N) → (first (default_of cs) ≡ done → ⊥) → first_case cs ≡ done → ⊥
next_place (default d) n = n
next_place (case h e b cs) n = λ q. let z : ◌≡◌ {A = ℕ} 0 1 = cc in omega arith

chosen : {P : Type 0} (t : Bool) (x y : Outcome)
    → (finishing x ≡ true → P) → (finishing y ≡ true → P) → finishing (cond t x y) ≡ true → P
chosen true x y f g e = f e
chosen false x y f g e = g e

-- a switch that ends, at once or when a wait does, has run its default to the end; in a text a default has a statement
pub default_runs : (cs : Cases Variable) (r : Reads)
    → (first (default_of cs) ≡ done → ⊥) → finishing (start_cases cs r) ≡ true → finishing (start_all (default_of cs) r) ≡ true
unfolding start
default_runs (default d) r n e = e
default_runs (case h t b cs) r n e =
    chosen (holds t r) (and_then (start_all b r) (start_cases cs r) (first_case cs)) (start_cases cs r)
    (λ q. default_runs cs r n (then_ends (start_all b r) (start_cases cs r) (first_case cs) (next_place cs n) q))
    (default_runs cs r n)
    e

pub default_runs_later : (cs : Cases Variable) (es : List Entry) (r : Reads)
    → (first (default_of cs) ≡ done → ⊥) → finishing (resume_cases cs es r) ≡ true
    → (finishing (start_all (default_of cs) r) ≡ true) ⊎ (finishing (resume_all (default_of cs) es r) ≡ true)
unfolding resume
default_runs_later (default d) es r n e = inr e
default_runs_later (case h t b cs) es r n e =
    chosen (some_at h.number es) (start_cases (case h t b cs) r) _
    (λ q. inl (default_runs (case h t b cs) r n q))
    (chosen (inside_all b es) (and_then (resume_all b es r) (start_cases cs r) (first_case cs)) (resume_cases cs es r)
    (λ q. inl (default_runs cs r n (then_ends (resume_all b es r) (start_cases cs r) (first_case cs) (next_place cs n) q)))
    (default_runs_later cs es r n))
    e
