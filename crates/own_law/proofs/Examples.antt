-- Small expansions counted and noted by computation.
-- Assumes nothing.
use mathlib.Core.Path.{◌≡◌, refl}
use mathlib.Core.Bool.{true, false}
use mathlib.Core.List.{List, [], ◌∷◌}
use Prim.Native.Nat.{ℕ, zero, suc}
use Rattle.meaning.specs.Tree.{Name, plus, raise, whole}
use Rattle.meaning.specs.Unexpanded.{literal, variable, arithmetic, parens, instead, skip, delay, change, assign, choice, while, loop, switch, parallel, call, passing, Commands, end, ◌⨾◌, default, case, Strands, ◌∥◌, Procedure}
use Rattle.meaning.specs.Unexpanded as unexpanded
use Rattle.meaning.specs.Declared.{same_bytes}
use Rattle.meaning.specs.Clock.{activities}
use Rattle.meaning.specs.Levels.{levels_in}
use Rattle.meaning.specs.Base.{base}
use Rattle.meaning.specs.Expansion.{actual_of, bind, form_of, replaced, allows_term, allows, same_count, followed_by, alone, expand, called, wide_call, wide, wides}
use Rattle.own_law.specs.Own.{Own, nothing, past, begun, parted, closed, begun_often, opened, if_large, own_term, own_command, own_all}
use Rattle.own_law.specs.Noted.{noted, noted_all}
use Rattle.own_law.proofs.Calls.{kept}

abbrev n : ℕ → Name
n c = record { bytes = c ∷ []; place = 0 }

abbrev counts : ℕ → ℕ → Own
counts s p = record { statements = s; parts = p; levels = 0; over = false }

-- by itself, by every size and by the two counts alone
abbrev alike : Commands → Own → Own → Type 0
alike x a b = (own_all true x nothing ≡ a) × (own_all false x nothing ≡ b)

-- ---- a short expansion: what is refused counts one statement, and every strand is counted
abbrev short : Commands
short =
    choice 0 (arithmetic plus 0 (parens (variable (n 97))) (literal 0 1)) (skip 0 ⨾ end) (call (n 113) [] ⨾ delay 0 0 255 ⨾ end)
    ⨾ parallel 0 (alone (change 0 raise (whole (n 97))) ∥ alone (assign (n 97) (instead (literal 0 1))) ∥ unexpanded.none)
    ⨾ end

short-counts : alike short (counts 7 4) (counts 7 4)
unfolding own_command own_term if_large closed parted opened begun activities base
short-counts = (refl, refl)

-- ---- a chain: each procedure hands its formal on, so the actual lies one level deeper at each

abbrev formal : Name
formal = n 97

-- the k-th of the chain, from the front
abbrev link : ℕ → Commands → Procedure
link k b = record { name = record { bytes = k ∷ []; place = 0 }; formals = formal ∷ []; body = b }

-- so many links, the last declared first; each but the first calls the one before it
chain : ℕ → List Procedure
chain zero = []
chain (suc zero) = link 1 (alone (assign formal (variable formal))) ∷ []
chain (suc (suc k)) = link (suc (suc k)) (alone (call (record { bytes = suc k ∷ []; place = 0 }) (variable formal ∷ []))) ∷ chain (suc k)

through_chain : ℕ → Commands
through_chain k = called (chain k) 0 (record { bytes = k ∷ []; place = 0 }) (variable (n 120) ∷ [])

within-levels : alike (through_chain 32) (counts 1 1) (counts 1 1)
unfolding chain through_chain called same_bytes same_count allows allows_term expand followed_by actual_of bind form_of replaced own_command own_term closed parted opened begun
within-levels = (refl, refl)

over_levels : alike (through_chain 33) past (counts 1 1)
unfolding chain through_chain called same_bytes same_count allows allows_term expand followed_by actual_of bind form_of replaced own_command own_term closed parted opened begun
over_levels = (refl, refl)

-- ---- a doubling pair: each procedure calls the one before it twice

double : ℕ → List Procedure
double zero = record { name = record { bytes = zero ∷ []; place = 0 }; formals = []; body = alone (skip 0) } ∷ []
double (suc k) = record { name = record { bytes = suc k ∷ []; place = 0 }; formals = []; body = call (record { bytes = k ∷ []; place = 0 }) [] ⨾ call (record { bytes = k ∷ []; place = 0 }) [] ⨾ end } ∷ double k

doubled : ℕ → Commands
doubled k = called (double k) 0 (record { bytes = k ∷ []; place = 0 }) []

seven_doubled : alike (doubled 7) (counts 128 0) (counts 128 0)
unfolding double doubled called same_bytes same_count allows allows_term expand followed_by actual_of bind form_of replaced own_command own_term closed parted opened begun
seven_doubled = (refl, refl)

eight_doubled : alike (doubled 8) past past
unfolding double doubled called same_bytes same_count allows allows_term expand followed_by actual_of bind form_of replaced own_command own_term closed parted opened begun
eight_doubled = (refl, refl)

-- ---- a delay and a parallel too large by themselves: P14 counts on

strands : ℕ → Strands
strands zero = unexpanded.none
strands (suc k) = alone (skip 0) ∥ strands k

long-delay : alike (alone (delay 0 0 256)) past (counts 1 0)
unfolding own_command if_large begun
long-delay = (refl, refl)

wide-parallel : alike (alone (parallel 0 (strands 9))) past (counts 10 0)
unfolding strands own_command if_large closed opened begun activities base
wide-parallel = (refl, refl)

passes_eight : alike (alone (passing 0 8)) (counts 9 0) (counts 9 0)
unfolding own_command if_large begun begun_often
passes_eight = (refl, refl)

passes_nine : alike (alone (passing 0 9)) past (counts 10 0)
unfolding own_command if_large begun begun_often
passes_nine = (refl, refl)

-- .. since a call inside may be refused that has more activities than the one statement that it leaves

abbrev three : Procedure
three = record { name = n 113; formals = formal ∷ []; body = alone (parallel 0 (alone (assign formal (literal 0 1)) ∥ alone (skip 0) ∥ alone (skip 0) ∥ unexpanded.none)) }

abbrev refusing : Procedure
refusing = record { name = n 114; formals = []; body = call (n 113) (literal 0 1 ∷ []) ⨾ delay 0 0 256 ⨾ end }

kept-one : (kept (refusing ∷ three ∷ []) (n 114) [] ≡ 1) × (wide_call (wides (refusing ∷ three ∷ [])) (n 114) [] ≡ 3)
unfolding called same_bytes same_count allows allows_term expand followed_by actual_of bind form_of replaced own_command own_term if_large closed parted opened begun activities base wide_call wides wide
kept-one = (refl, refl)

-- ---- what is noted beside the base tree, the last place first, with 31 levels open around

record Found : Type 0 where
  sixes : List ℕ
  nines : List ℕ

abbrev named : ℕ → Name
named p = record { bytes = 113 ∷ []; place = p }

abbrev deep_body : Commands
deep_body =
    loop 1 (alone (change 2 raise (whole (named 0))))
    ⨾ call (named 3) []
    ⨾ passing 4 2
    ⨾ assign (named 5) (parens (literal 0 1))
    ⨾ assign (named 6) (parens (instead (literal 0 1)))
    ⨾ switch 7 (case 8 (parens (literal 0 1)) (alone (call (named 9) [])) (default (alone (while 10 (literal 0 1) end))))
    ⨾ parallel 11 (alone (choice 12 (literal 0 1) (alone (call (named 13) [])) end) ∥ unexpanded.none)
    ⨾ end

abbrev at_six_lem : ℕ → Found → Found
at_six_lem p f = record { sixes = p ∷ f.sixes; nines = f.nines }

abbrev at_nine_lem : ℕ → Found → Found
at_nine_lem p f = record { sixes = f.sixes; nines = p ∷ f.nines }

abbrev found : List ℕ → List ℕ → Found
found a b = record { sixes = a; nines = b }

found-deep : noted_all at_six_lem at_nine_lem 31 deep_body (found [] []) ≡ found (13 ∷ 9 ∷ 3 ∷ []) (12 ∷ 10 ∷ 8 ∷ 6 ∷ 4 ∷ 2 ∷ [])
unfolding noted levels_in
found-deep = refl
