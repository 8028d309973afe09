-- Small trees with procedures, each expanded, searched or measured by computation, so that this crate by itself refuses another expansion. Texts stand in crates/compared_procedures.
-- Assumes nothing.
use mathlib.Core.Path.{◌≡◌, refl}
use mathlib.Core.Bool.{Bool, true, false}
use mathlib.Core.List.{List, [], ◌∷◌, ◌++◌, map}
use mathlib.Core.Option.{Option, none, some}
use Prim.Native.Nat.{ℕ, zero, suc, ◌+◌}
use lib.ListN.{replicate}
use Rattle.meaning.specs.Tree as tree
use Rattle.meaning.specs.Tree.{Name, plus, minus, less, and, or, raise, lower, invert, whole, part}
use Rattle.meaning.specs.Declared as declared
use Rattle.meaning.specs.Declared.{Source, high, inputs, outputs, integers}
use Rattle.meaning.specs.Clock.{activities}
use Rattle.meaning.specs.Items as items
use Rattle.meaning.specs.Names as names
use Rattle.meaning.specs.Kinds.{kind_faults}
use Rattle.meaning.specs.Jumps.{jump_in}
use Rattle.meaning.specs.Sizes as sizes
use Rattle.meaning.specs.Worst as worst
use Rattle.meaning.specs.Faults.{Fault, least, fault_of}
use Rattle.meaning.specs.Unexpanded.{Term, literal, truth, variable, bit, not, int, arithmetic, comparison, logic, parens, instead, no_name, Command, skip, delay, change, assign, choice, while, loop, exit, break, switch, parallel, call, passing, Commands, end, ◌⨾◌, default, case, ◌∥◌, DeclaredName, a_variable, a_procedure, Unexpanded, nameless}
use Rattle.meaning.specs.Unexpanded as unexpanded
use Rattle.meaning.specs.Levels.{levels_in, level_fault}
use Rattle.meaning.specs.Base.{head_at, idle, base_term, base}
use Rattle.meaning.specs.Expansion.{Bound, actual_of, bind, form_of, replaced, is_name, is_bit, allows_term, allows, allowed_by, same_count, alone, followed_by, expand, expand_all, called, Wide, wide_call, wide, wides, outermost, procedures_from, variables_of, expanded_body, expanded}
use Rattle.meaning.specs.Procedures.{has_name, formals_again, clashes, found_in, calls_refused, calls_passing, fault_in}

-- a name of one letter, where it stands
abbrev n : ℕ → ℕ → Name
n c p = record { bytes = c ∷ []; place = p }

-- a term and a statement that show where they are
abbrev t : ℕ → Term
t p = variable (n 122 p)

abbrev at : ℕ → Command
at p = skip p

-- the formals a, b and e stand for a name, a bit and a sum
abbrev sum : Term
sum = arithmetic plus 52 (literal 53 1) (t 54)

abbrev bound : List (Bound Term)
bound = record { formal = 97 ∷ []; actual = variable (n 120 50) } ∷ record { formal = 98 ∷ []; actual = bit (n 120 51) 2 } ∷ record { formal = 101 ∷ []; actual = sum } ∷ []

abbrev to : ℕ → ℕ
to p = 100 + p

-- `e[0]`, which no sum allows
abbrev bad : Term
bad = bit (n 101 0) 0

abbrev badly : Command
badly = assign (n 120 0) bad

-- what these allow
abbrev indexable : List ℕ → Bool
indexable x = is_name (actual_of bound x)

abbrev raisable : List ℕ → Bool
raisable x = is_bit (actual_of bound x)

-- ---- every kind of term and of statement, replaced

abbrev terms : List Term
terms =
    logic and 1 (comparison less 2 (arithmetic minus 3 (literal 4 9) (int 5 (not 6 (truth 7 true)))) (parens (variable (n 101 8)))) (bit (n 122 9) 3)
    ∷ bit (n 97 10) 1 ∷ bit (n 98 11) 1 ∷ bit (n 101 12) 1 ∷ variable (n 97 13) ∷ variable (n 98 14) ∷ t 15 ∷ instead (t 16) ∷ no_name 17
    ∷ []

abbrev terms_replaced : List Term
terms_replaced =
    logic and 101 (comparison less 102 (arithmetic minus 103 (literal 104 9) (int 105 (not 106 (truth 107 true)))) (parens (instead sum))) (bit (n 122 109) 3)
    ∷ bit (n 120 50) 1 ∷ no_name 111 ∷ no_name 112 ∷ instead (variable (n 120 50)) ∷ instead (bit (n 120 51) 2) ∷ t 115 ∷ instead (t 116) ∷ no_name 117
    ∷ []

-- every call stays
abbrev stays : Name → List Term → Commands
stays v ts = alone (call v ts)

abbrev body : Commands
body =
    skip 1
    ⨾ delay 2 3 4
    ⨾ change 5 raise (whole (n 97 6))
    ⨾ change 7 lower (whole (n 98 8))
    ⨾ change 9 invert (whole (n 122 10))
    ⨾ change 11 raise (whole (n 101 12))
    ⨾ change 13 raise (part (n 97 14) 3)
    ⨾ change 15 lower (part (n 122 16) 4)
    ⨾ change 17 raise (part (n 98 18) 5)
    ⨾ assign (n 97 19) (t 20)
    ⨾ assign (n 122 21) (variable (n 101 22))
    ⨾ assign (n 98 23) (t 24)
    ⨾ choice 25 (t 26) (at 27 ⨾ end) (at 28 ⨾ end)
    ⨾ while 29 (variable (n 97 30)) (at 31 ⨾ end)
    ⨾ loop 32 (at 33 ⨾ at 34 ⨾ end)
    ⨾ exit 35
    ⨾ break 36
    ⨾ switch 37 (case 38 (t 39) (at 40 ⨾ end) (default (at 41 ⨾ end)))
    ⨾ parallel 42 ((at 43 ⨾ end) ∥ (at 44 ⨾ end) ∥ unexpanded.none)
    ⨾ call (n 113 45) (variable (n 97 46) ∷ t 47 ∷ [])
    ⨾ passing 48 2
    ⨾ end

abbrev body_expanded : Commands
body_expanded =
    skip 101
    ⨾ delay 102 103 4
    ⨾ change 105 raise (whole (n 120 50))
    ⨾ change 107 lower (part (n 120 51) 2)
    ⨾ change 109 invert (whole (n 122 110))
    ⨾ change 111 raise (whole (nameless 112))
    ⨾ change 113 raise (part (n 120 50) 3)
    ⨾ change 115 lower (part (n 122 116) 4)
    ⨾ change 117 raise (part (nameless 118) 5)
    ⨾ assign (n 120 50) (t 120)
    ⨾ assign (n 122 121) (instead sum)
    ⨾ assign (nameless 123) (t 124)
    ⨾ choice 125 (t 126) (at 127 ⨾ end) (at 128 ⨾ end)
    ⨾ while 129 (instead (variable (n 120 50))) (at 131 ⨾ end)
    ⨾ loop 132 (at 133 ⨾ at 134 ⨾ end)
    ⨾ exit 135
    ⨾ break 136
    ⨾ switch 137 (case 138 (t 139) (at 140 ⨾ end) (default (at 141 ⨾ end)))
    ⨾ parallel 142 ((at 143 ⨾ end) ∥ (at 144 ⨾ end) ∥ unexpanded.none)
    ⨾ call (n 113 145) (instead (variable (n 120 50)) ∷ t 147 ∷ [])
    ⨾ passing 148 2
    ⨾ end

-- .. and of the tree without procedures
abbrev one : ℕ → tree.Stmts Name
one p = tree.◌⨾◌ (tree.skip (head_at p)) tree.end

abbrev two : ℕ → ℕ → tree.Branches Name
two p q = tree.◌∥◌ (one p) (tree.◌∥◌ (one q) tree.none)

abbrev v : ℕ → tree.Expr Name
v p = tree.variable (n 122 p)

abbrev based : List (tree.Stmt Name)
based =
    tree.skip (head_at 1)
    ∷ tree.delay (head_at 2) 3 4
    ∷ tree.change (head_at 15) lower (part (n 122 16) 4)
    ∷ tree.assign (head_at 21) (n 122 21) (v 22)
    ∷ tree.choice (head_at 25) (v 26) (one 27) (one 28)
    ∷ tree.while (head_at 29) (v 30) (one 31)
    ∷ tree.loop (head_at 32) (tree.◌⨾◌ (tree.skip (head_at 33)) (one 34))
    ∷ tree.exit (head_at 35)
    ∷ tree.break (head_at 36)
    ∷ tree.switch (head_at 37) (tree.case (head_at 38) (v 39) (one 40) (tree.default (one 41)))
    ∷ tree.parallel (head_at 42) (two 43 44)
    ∷ tree.skip (head_at 45)
    ∷ tree.parallel (head_at 48) (two 48 48)
    ∷ []

abbrev unbased : List Command
unbased =
    skip 1
    ∷ delay 2 3 4
    ∷ change 15 lower (part (n 122 16) 4)
    ∷ assign (n 122 21) (t 22)
    ∷ choice 25 (t 26) (at 27 ⨾ end) (at 28 ⨾ end)
    ∷ while 29 (t 30) (at 31 ⨾ end)
    ∷ loop 32 (at 33 ⨾ at 34 ⨾ end)
    ∷ exit 35
    ∷ break 36
    ∷ switch 37 (case 38 (t 39) (at 40 ⨾ end) (default (at 41 ⨾ end)))
    ∷ parallel 42 ((at 43 ⨾ end) ∥ (at 44 ⨾ end) ∥ unexpanded.none)
    ∷ call (n 113 45) []
    ∷ passing 48 2
    ∷ []

-- ---- programs

abbrev procedure : ℕ → ℕ → List Name → Commands → DeclaredName
procedure c p fs b = a_procedure (record { name = n c p; formals = fs; body = b })

-- the output L and the integer x of two bits
abbrev vars : List DeclaredName
vars = a_variable (outputs (n 76 1) high false) ∷ a_variable (integers (n 120 2) 3 2 0) ∷ []

abbrev program : List DeclaredName → Commands → Unexpanded
program ds b = record { name = 112 ∷ []; declared = vars ++ ds; body = b }

abbrev raised : ℕ → Commands
raised p = alone (change p raise (whole (n 97 p)))

abbrev called_with : ℕ → ℕ → List Term → Commands
called_with c p ts = alone (call (n c p) ts)

abbrev told : ℕ → ℕ → Option Fault
told number place = some (record { number = number; place = place })

-- `q(a) raise(a)`, `r(a) q(a)`
abbrev q : DeclaredName
q = procedure 113 10 (n 97 11 ∷ []) (raised 12)

abbrev r : DeclaredName
r = procedure 114 20 (n 97 21 ∷ []) (called_with 113 22 (variable (n 97 23) ∷ []))

-- `q() skip`, eight branches of what is told
abbrev idles : DeclaredName
idles = procedure 113 10 [] (alone (skip 12))

abbrev eight : Commands → Commands
eight b = alone (parallel 13 (b ∥ b ∥ b ∥ b ∥ b ∥ b ∥ b ∥ b ∥ unexpanded.none))

-- so many statements before others
abbrev many : ℕ → Commands → Commands
many zero b = b
many (suc k) b = skip 15 ⨾ many k b

-- so many parentheses around a term
abbrev within : ℕ → Term → Term
within zero e = e
within (suc k) e = parens (within k e)

-- a statement that opens a level at 1, and one that has the activities of q
abbrev deeper : Command
deeper = loop 1 end

abbrev threes : List Wide
threes = record { name = 113 ∷ []; formals = []; activities = 3 } ∷ []

abbrev threely : Command
threely = call (n 113 1) []

-- a statement wherever one can stand
abbrev refused_in : Command → List Command
refused_in c =
    c
    ∷ choice 1 (t 2) (c ⨾ end) end
    ∷ choice 1 (t 2) end (at 1 ⨾ c ⨾ end)
    ∷ while 1 (t 2) (c ⨾ end)
    ∷ loop 1 (c ⨾ end)
    ∷ switch 1 (case 2 (t 3) (c ⨾ end) (default end))
    ∷ switch 1 (case 2 (t 3) end (default (c ⨾ end)))
    ∷ parallel 1 ((c ⨾ end) ∥ end ∥ unexpanded.none)
    ∷ parallel 1 (end ∥ (c ⨾ end) ∥ unexpanded.none)
    ∷ []

-- the places of a program's statements
abbrev count_of : Source → List ℕ
count_of s = names.gather sizes.statement_place (items.items_all s.body)

pub record Expanding : Type 0 where
  -- P4, P5, P8, P9
  pub terms_replaced_lem : map (replaced to bound) terms ≡ terms_replaced
  pub body-expanded : expand_all stays to bound body ≡ body_expanded
  pub call-expanded : expand_all (λ w ts. at 7 ⨾ at 8 ⨾ end) to bound (call (n 113 1) [] ⨾ at 2 ⨾ end) ≡ at 7 ⨾ at 8 ⨾ at 102 ⨾ end
  -- P7, P14: what is left of calls; parentheses leave no trace
  pub to_base : map base unbased ≡ based
  pub terms_to_base : map base_term (instead (parens (t 1)) ∷ no_name 2 ∷ logic or 3 (comparison less 4 (literal 5 6) (int 7 (truth 8 true))) (not 9 (bit (n 122 10) 1)) ∷ arithmetic minus 11 (t 12) (t 13) ∷ []) ≡ v 1 ∷ tree.variable (nameless 2) ∷ tree.logic or 3 (tree.comparison less 4 (tree.literal 5 6) (tree.int 7 (tree.truth 8 true))) (tree.not 9 (tree.bit (n 122 10) 1)) ∷ tree.arithmetic minus 11 (v 12) (v 13) ∷ []
  -- P7: the forms of actuals that terms allow
  pub terms_allowed : map (allows_term indexable raisable) (literal 1 2 ∷ truth 1 true ∷ variable (n 101 1) ∷ bit (n 97 1) 0 ∷ bit (n 122 1) 0 ∷ no_name 1 ∷ []) ≡ replicate 6 true
  pub terms_not_allowed : map (allows_term indexable raisable) (bad ∷ bit (n 98 1) 0 ∷ not 1 bad ∷ int 1 bad ∷ arithmetic plus 1 bad (t 1) ∷ arithmetic plus 1 (t 1) bad ∷ comparison less 1 bad (t 1) ∷ comparison less 1 (t 1) bad ∷ logic and 1 bad (t 1) ∷ logic and 1 (t 1) bad ∷ parens bad ∷ instead bad ∷ []) ≡ replicate 12 false
  -- .. and statements
  pub allowed : map (λ (c : Command). allowed_by bound (alone c)) (skip 1 ∷ delay 1 2 3 ∷ change 1 raise (whole (n 97 2)) ∷ change 1 raise (whole (n 98 2)) ∷ change 1 raise (whole (n 122 2)) ∷ change 1 raise (part (n 97 2) 1) ∷ assign (n 97 1) (t 2) ∷ choice 1 (t 2) (at 1 ⨾ at 2 ⨾ end) end ∷ while 1 (t 2) end ∷ loop 1 end ∷ exit 1 ∷ break 1 ∷ switch 1 (case 2 (t 3) end (default end)) ∷ parallel 1 (end ∥ unexpanded.none) ∷ call (n 113 1) (bad ∷ []) ∷ passing 1 2 ∷ []) ≡ replicate 16 true
  pub not_allowed : map (λ (c : Command). allowed_by bound (alone c)) (badly ∷ change 1 raise (whole (n 101 2)) ∷ change 1 raise (part (n 98 2) 1) ∷ change 1 raise (part (n 101 2) 1) ∷ assign (n 98 1) (t 2) ∷ assign (n 101 1) (t 2) ∷ choice 1 bad end end ∷ choice 1 (t 2) (badly ⨾ end) end ∷ choice 1 (t 2) end (badly ⨾ end) ∷ while 1 bad end ∷ while 1 (t 2) (badly ⨾ end) ∷ loop 1 (at 1 ⨾ badly ⨾ end) ∷ switch 1 (case 2 bad end (default end)) ∷ switch 1 (case 2 (t 3) (badly ⨾ end) (default end)) ∷ switch 1 (case 2 (t 3) end (default (badly ⨾ end))) ∷ parallel 1 ((badly ⨾ end) ∥ end ∥ unexpanded.none) ∷ parallel 1 (end ∥ (badly ⨾ end) ∥ unexpanded.none) ∷ []) ≡ replicate 17 false
  -- G9, P5: levels
  pub term_levels : map levels_in (literal 1 2 ∷ truth 1 true ∷ t 1 ∷ bit (n 122 1) 2 ∷ no_name 1 ∷ not 1 (t 1) ∷ int 1 (t 1) ∷ parens (t 1) ∷ instead (t 1) ∷ arithmetic plus 1 (parens (t 1)) (t 1) ∷ arithmetic plus 1 (t 1) (parens (t 1)) ∷ comparison less 1 (parens (t 1)) (t 1) ∷ comparison less 1 (t 1) (parens (t 1)) ∷ logic and 1 (parens (t 1)) (t 1) ∷ logic and 1 (t 1) (parens (t 1)) ∷ []) ≡ replicate 5 0 ++ replicate 10 1
  -- P12: a level too many
  pub no_level_over : map (level_fault 31) (skip 1 ∷ delay 1 2 3 ∷ change 1 raise (whole (n 122 2)) ∷ assign (n 122 1) (parens (t 2)) ∷ choice 1 (t 2) (at 3 ⨾ end) (at 4 ⨾ end) ∷ while 1 (t 2) end ∷ loop 1 end ∷ exit 1 ∷ break 1 ∷ switch 1 (case 2 (t 3) end (default end)) ∷ parallel 1 (end ∥ unexpanded.none) ∷ call (n 113 1) (parens (parens (t 2)) ∷ []) ∷ passing 1 2 ∷ []) ≡ replicate 13 []
  pub levels_over : map (level_fault 32) (change 1 raise (whole (n 122 2)) ∷ assign (n 122 1) (parens (t 2)) ∷ choice 1 (t 2) end end ∷ while 1 (t 2) end ∷ loop 1 end ∷ switch 1 (default end) ∷ parallel 1 unexpanded.none ∷ []) ≡ replicate 7 (1 ∷ [])
  pub levels_over_inside : map (level_fault 31) (choice 1 (parens (t 2)) end end ∷ choice 2 (t 2) (deeper ⨾ end) end ∷ choice 2 (t 2) end (at 3 ⨾ deeper ⨾ end) ∷ while 1 (parens (t 2)) end ∷ while 2 (t 2) (deeper ⨾ end) ∷ loop 2 (deeper ⨾ end) ∷ switch 2 (case 1 (parens (t 3)) end (default end)) ∷ switch 2 (case 3 (t 3) (deeper ⨾ end) (default end)) ∷ switch 2 (case 3 (t 3) end (default (deeper ⨾ end))) ∷ parallel 2 ((deeper ⨾ end) ∥ unexpanded.none) ∷ parallel 2 (end ∥ (deeper ⨾ end) ∥ unexpanded.none) ∷ []) ≡ replicate 11 (1 ∷ [])
  -- P14: activities, those of q being three
  pub activities_by_call : map (wide threes) (skip 1 ∷ delay 1 2 3 ∷ change 1 raise (whole (n 122 2)) ∷ assign (n 122 1) (t 2) ∷ exit 1 ∷ break 1 ∷ call (n 122 1) [] ∷ call (n 113 1) (t 2 ∷ []) ∷ loop 1 end ∷ []) ≡ replicate 9 1
  pub activities-inside : map (wide threes) (call (n 113 1) [] ∷ choice 1 (t 2) (threely ⨾ end) end ∷ choice 1 (t 2) end (at 1 ⨾ threely ⨾ end) ∷ while 1 (t 2) (threely ⨾ at 1 ⨾ end) ∷ loop 1 (threely ⨾ end) ∷ switch 1 (case 2 (t 3) (threely ⨾ end) (default end)) ∷ switch 1 (case 2 (t 3) end (default (threely ⨾ end))) ∷ parallel 1 (end ∥ end ∥ end ∥ unexpanded.none) ∷ passing 1 3 ∷ []) ≡ replicate 9 3
  pub activities_added : map (wide threes) (parallel 1 ((threely ⨾ end) ∥ end ∥ (threely ⨾ end) ∥ unexpanded.none) ∷ parallel 1 ((threely ⨾ end) ∥ (threely ⨾ end) ∥ (threely ⨾ end) ∥ (threely ⨾ end) ∥ unexpanded.none) ∷ passing 1 20 ∷ []) ≡ 7 ∷ 9 ∷ 9 ∷ []
  pub activities_of_procedures : wides (record { name = n 114 1; formals = []; body = alone (parallel 2 ((call (n 113 3) [] ⨾ end) ∥ end ∥ unexpanded.none)) } ∷ record { name = n 113 4; formals = []; body = alone (parallel 5 (end ∥ end ∥ end ∥ unexpanded.none)) } ∷ []) ≡ record { name = 114 ∷ []; formals = []; activities = 4 } ∷ threes
  -- P7, P13: what an expansion leaves of calls
  pub refused-found : map (λ (c : Command). calls_refused (c ⨾ at 1 ⨾ end)) (refused_in (call (n 113 9) [])) ≡ replicate 9 (9 ∷ [])
  pub passing-found : map (λ (c : Command). calls_passing (c ⨾ at 1 ⨾ end)) (refused_in (passing 9 1)) ≡ replicate 9 (9 ∷ [])
  pub none_found : map (found_in (λ w. w.place ∷ []) (λ p. p ∷ [])) (skip 1 ∷ delay 1 2 3 ∷ change 1 raise (whole (n 122 2)) ∷ assign (n 122 1) (t 2) ∷ exit 1 ∷ break 1 ∷ []) ≡ replicate 6 []
  pub one-kind-found : calls_refused (alone (passing 1 2)) ++ calls_passing (alone (call (n 113 1) [])) ≡ []
  -- P3
  pub names-again : clashes [] [] (procedure 113 1 (n 97 2 ∷ n 113 3 ∷ n 97 4 ∷ []) end ∷ a_variable (inputs (n 97 5) high) ∷ a_variable (inputs (n 113 6) high) ∷ a_variable (inputs (n 97 7) high) ∷ procedure 97 8 (n 97 9 ∷ n 98 10 ∷ n 113 11 ∷ []) end ∷ procedure 113 12 [] end ∷ a_variable (inputs (n 97 13) high) ∷ procedure 98 14 [] end ∷ []) ≡ 3 ∷ 4 ∷ 6 ∷ 8 ∷ 9 ∷ 11 ∷ 12 ∷ 13 ∷ []
  pub procedures-again : clashes [] [] (procedure 113 1 [] end ∷ procedure 114 2 (n 113 3 ∷ []) end ∷ procedure 113 4 [] end ∷ []) ≡ 3 ∷ 4 ∷ []
  pub name-again : fault_in (program (procedure 76 10 [] (alone (skip 12)) ∷ []) (called_with 76 30 [])) ≡ told 6 10
  -- P4, P6, P9: expanded, with the outermost call as the place
  pub chained : expanded_body (program (q ∷ r ∷ []) (at 30 ⨾ call (n 114 31) (variable (n 76 32) ∷ []) ⨾ at 33 ⨾ end)) ≡ at 30 ⨾ change 31 raise (whole (n 76 31)) ⨾ at 33 ⨾ end
  pub of_declared : expanded (program (q ∷ a_variable (inputs (n 73 30) high) ∷ []) (alone (skip 31))) ≡ record { name = 112 ∷ []; declared = outputs (n 76 1) high false ∷ integers (n 120 2) 3 2 0 ∷ inputs (n 73 30) high ∷ []; body = one 31 }
  pub before_variables : fault_in (program (idles ∷ a_variable (inputs (n 73 30) high) ∷ []) (called_with 113 31 [])) ≡ none
  pub handed_on : expanded_body (program (procedure 113 10 (n 97 11 ∷ []) (alone (assign (n 120 12) (variable (n 97 13)))) ∷ r ∷ []) (called_with 114 30 (literal 31 1 ∷ []))) ≡ alone (assign (n 120 30) (instead (instead (literal 30 1))))
  pub no_fault : fault_in (program (q ∷ r ∷ []) (called_with 114 30 (variable (n 76 31) ∷ []))) ≡ none
  -- P7
  pub refused-unknown : fault_in (program (q ∷ []) (called_with 115 30 [])) ≡ told 6 30
  pub refused_itself : fault_in (program (procedure 113 10 [] (called_with 113 11 []) ∷ []) (called_with 113 30 [])) ≡ told 6 30
  pub refused-later : fault_in (program (r ∷ q ∷ []) (called_with 114 30 (variable (n 76 31) ∷ []))) ≡ told 6 30
  pub refused_too_few : fault_in (program (q ∷ []) (called_with 113 30 [])) ≡ told 6 30
  pub refused_too_few_unused : fault_in (program (procedure 113 10 (n 97 11 ∷ []) (alone (skip 12)) ∷ []) (called_with 113 30 [])) ≡ told 6 30
  pub refused_too_many : fault_in (program (q ∷ []) (called_with 113 30 (variable (n 76 31) ∷ variable (n 76 32) ∷ []))) ≡ told 6 30
  pub refused-form : fault_in (program (q ∷ []) (called_with 113 30 (parens (variable (n 76 31)) ∷ []))) ≡ told 6 30
  pub refused_not_expanded : fault_in (program (procedure 113 10 (n 97 11 ∷ []) (change 12 raise (whole (n 97 13)) ⨾ delay 14 15 256 ⨾ end) ∷ []) (called_with 113 30 (literal 31 1 ∷ []))) ≡ told 6 30
  pub refused_handed_on : fault_in (program (q ∷ r ∷ []) (called_with 114 30 (literal 31 1 ∷ []))) ≡ told 6 30
  pub counts_as_one : count_of (expanded (program (q ∷ []) (called_with 113 30 []))) ≡ 30 ∷ []
  -- P11
  pub dropped : fault_in (program (procedure 113 10 (n 97 11 ∷ []) (alone (skip 12)) ∷ []) (called_with 113 30 (arithmetic plus 31 (t 32) (truth 33 true) ∷ []))) ≡ none
  pub never_called : fault_in (program (procedure 113 10 [] (exit 11 ⨾ assign (n 76 12) (t 13) ⨾ delay 14 15 256 ⨾ end) ∷ []) (alone (skip 30))) ≡ none
  -- P9, P10: faults of the expansion
  pub unknown : fault_in (program (procedure 113 10 [] (raised 11) ∷ []) (called_with 113 30 [])) ≡ told 6 30
  pub wrong_kind : fault_in (program (q ∷ []) (called_with 113 30 (variable (n 120 31) ∷ []))) ≡ told 7 30
  pub jumps : fault_in (program (procedure 113 10 [] (alone (exit 11)) ∷ []) (called_with 113 30 [])) ≡ told 8 30
  pub jumps_in_loop : fault_in (program (procedure 113 10 [] (alone (exit 11)) ∷ []) (alone (loop 29 (called_with 113 30 [])))) ≡ none
  -- P13: of a call that passes a size by itself nothing else is told
  pub long-delay : fault_in (program (procedure 113 10 [] (delay 11 12 256 ⨾ exit 13 ⨾ raised 14) ∷ []) (called_with 113 30 [])) ≡ told 9 30
  pub long-delay-beside : fault_in (program (procedure 113 10 [] (alone (delay 11 12 256)) ∷ []) (call (n 113 30) [] ⨾ exit 31 ⨾ end)) ≡ told 8 31
  pub nine_branches : fault_in (program (procedure 113 10 [] (eight (alone (parallel 11 (end ∥ end ∥ unexpanded.none)))) ∷ []) (called_with 113 30 [])) ≡ told 9 30
  pub deep_by_itself : fault_in (program (procedure 113 10 (n 97 11 ∷ []) (assign (n 120 12) (within 32 (variable (n 97 13))) ⨾ exit 14 ⨾ end) ∷ []) (called_with 113 30 (literal 31 1 ∷ []))) ≡ told 9 30
  pub as_deep_as_may_be : fault_in (program (procedure 113 10 (n 97 11 ∷ []) (assign (n 120 12) (within 31 (variable (n 97 13))) ⨾ end) ∷ []) (called_with 113 30 (literal 31 1 ∷ []))) ≡ none
  pub deep_where_it_stands : fault_in (program (procedure 113 10 (n 97 11 ∷ []) (alone (assign (n 120 12) (within 31 (variable (n 97 13))))) ∷ []) (alone (loop 29 (called_with 113 30 (literal 31 1 ∷ []))))) ≡ told 9 30
  pub deep_and_searched : fault_in (program (procedure 113 10 (n 97 11 ∷ []) (assign (n 120 12) (within 31 (variable (n 97 13))) ⨾ break 14 ⨾ end) ∷ []) (alone (loop 29 (called_with 113 30 (literal 31 1 ∷ []))))) ≡ told 8 30
  -- P14: a parallel around it
  pub parallel-around : fault_in (program (procedure 113 10 [] (delay 11 12 256 ⨾ eight (alone (skip 14))) ∷ []) (alone (parallel 28 (alone (skip 29) ∥ called_with 113 30 [] ∥ unexpanded.none)))) ≡ told 9 28
  pub parallel-around-many : fault_in (program (procedure 113 10 [] (many 256 (eight (alone (skip 14)))) ∷ []) (alone (parallel 28 (alone (skip 29) ∥ called_with 113 30 [] ∥ unexpanded.none)))) ≡ told 9 28
  pub parallel-within : fault_in (program (procedure 113 10 [] (alone (delay 11 12 256)) ∷ []) (alone (parallel 28 (alone (skip 29) ∥ called_with 113 30 [] ∥ unexpanded.none)))) ≡ told 9 30

pub expanding : Expanding
unfolding
    actual_of bind form_of replaced allows_term allows same_count followed_by expand called wide_call wide wides outermost procedures_from variables_of expanded_body expanded
    has_name formals_again clashes found_in fault_in levels_in level_fault idle base_term base
    declared.same_bytes declared.input_count declared.output_count declared.look_from declared.look_up
    items.items items.within items.parts_of names.gather names.among names.again_from names.name_faults kind_faults jump_in activities sizes.bits_from sizes.size_faults worst.worst worst.worst_faults least fault_of
expanding =
    record {
      terms_replaced_lem = refl;
      body-expanded = refl;
      call-expanded = refl;
      to_base = refl;
      terms_to_base = refl;
      terms_allowed = refl;
      terms_not_allowed = refl;
      allowed = refl;
      not_allowed = refl;
      term_levels = refl;
      no_level_over = refl;
      levels_over = refl;
      levels_over_inside = refl;
      activities_by_call = refl;
      activities-inside = refl;
      activities_added = refl;
      activities_of_procedures = refl;
      refused-found = refl;
      passing-found = refl;
      none_found = refl;
      one-kind-found = refl;
      names-again = refl;
      procedures-again = refl;
      name-again = refl;
      chained = refl;
      of_declared = refl;
      before_variables = refl;
      handed_on = refl;
      no_fault = refl;
      refused-unknown = refl;
      refused_itself = refl;
      refused-later = refl;
      refused_too_few = refl;
      refused_too_few_unused = refl;
      refused_too_many = refl;
      refused-form = refl;
      refused_not_expanded = refl;
      refused_handed_on = refl;
      counts_as_one = refl;
      dropped = refl;
      never_called = refl;
      unknown = refl;
      wrong_kind = refl;
      jumps = refl;
      jumps_in_loop = refl;
      long-delay = refl;
      long-delay-beside = refl;
      nine_branches = refl;
      deep_by_itself = refl;
      as_deep_as_may_be = refl;
      deep_where_it_stands = refl;
      deep_and_searched = refl;
      parallel-around = refl;
      parallel-around-many = refl;
      parallel-within = refl;
    }
