-- P4 to P10, P13 and P14: what a call stands for, and the expanded program.
-- Assumes nothing.
use Rattle.std.specs.Prelude.{ℕ, suc, ◌+◌, max, min, Bool, true, false, cond, List, [], ◌∷◌, ◌++◌, map}
use Rattle.std.proofs.Math.Option.{Option, none, some}
use Rattle.meaning.specs.Tree.{Name, Target, whole, part}
use Rattle.meaning.specs.Clock.{activities_all}
use Rattle.meaning.specs.States.{most_activities}
use Rattle.meaning.specs.Declared.{Declaration, Source, same_bytes}
use Rattle.meaning.specs.Kinds.{both}
use Rattle.meaning.specs.Sizes.{count_faults, body_sizes}
use Rattle.meaning.specs.Unexpanded.{Term, literal, truth, variable, bit, not, int, arithmetic, comparison, logic, parens, instead, no_name, Command, skip, delay, change, assign, choice, while, loop, exit, break, switch, parallel, call, passing, Commands, end, ◌⨾◌, Tests, default, case, Strands, ◌∥◌, Procedure, DeclaredName, a_variable, a_procedure, Unexpanded, nameless}
use Rattle.meaning.specs.Unexpanded as unexpanded
use Rattle.meaning.specs.Levels.{level_faults}
use Rattle.meaning.specs.Base.{base_all}

-- ---- actuals

-- a formal by its bytes, with its actual, in which no formal stands any more; or with what is known of that
pub record Bound (A : Type 0) : Type 0 where
  pub formal : List ℕ
  pub actual : A

unfoldable pub actual_of : {A : Type 0} → List (Bound A) → List ℕ → Option A
actual_of [] x = none
actual_of (b ∷ bs) x = cond (same_bytes b.formal x) (some b.actual) (actual_of bs x)

unfoldable pub bind : {A : Type 0} → List Name → List A → List (Bound A)
bind [] ts = []
bind (n ∷ ns) [] = []
bind (n ∷ ns) (t ∷ ts) = record { formal = n.bytes; actual = t } ∷ bind ns ts

-- P7: what an actual is where its formal is changed or indexed
pub data Form : Type 0 where
  one_name : Name → Form
  one_bit : Name → ℕ → Form
  neither : Form

unfoldable pub form_of : Term → Form
form_of (literal p n) = neither
form_of (truth p b) = neither
form_of (variable v) = one_name v
form_of (bit v j) = one_bit v j
form_of (not p e) = neither
form_of (int p e) = neither
form_of (arithmetic o p a b) = neither
form_of (comparison o p a b) = neither
form_of (logic o p a b) = neither
form_of (parens e) = neither
form_of (instead e) = form_of e
form_of (no_name p) = neither

-- ---- replacing: every place becomes what `to` says (P9), and every formal its actual (P4)

module _ (to : ℕ → ℕ) where
  abbrev pub moved : Name → Name
  moved v = record { bytes = v.bytes; place = to v.place }

  -- P5: read in an expression
  abbrev pub read_name : Name → Option Term → Term
  read_name v none = variable (moved v)
  read_name v (some t) = instead t

  -- P5: changed or indexed it is bare; P8: where it is no name
  abbrev pub bit_of_form : ℕ → ℕ → Form → Term
  bit_of_form p j (one_name v) = bit v j
  bit_of_form p j (one_bit v i) = no_name p
  bit_of_form p j neither = no_name p

  abbrev pub read_bit : Name → ℕ → Option Term → Term
  read_bit v j none = bit (moved v) j
  read_bit v j (some t) = bit_of_form (to v.place) j (form_of t)

  abbrev pub name_of_form : ℕ → Form → Name
  name_of_form p (one_name v) = v
  name_of_form p (one_bit v j) = nameless p
  name_of_form p neither = nameless p

  abbrev pub changed_name : Name → Option Term → Name
  changed_name v none = moved v
  changed_name v (some t) = name_of_form (to v.place) (form_of t)

  abbrev pub target_of_form : ℕ → Form → Target Name
  target_of_form p (one_name v) = whole v
  target_of_form p (one_bit v j) = part v j
  target_of_form p neither = whole (nameless p)

  abbrev pub changed_whole : Name → Option Term → Target Name
  changed_whole v none = whole (moved v)
  changed_whole v (some t) = target_of_form (to v.place) (form_of t)

  module _ (bound : List (Bound Term)) where
    unfoldable pub replaced : Term → Term
    replaced (literal p n) = literal (to p) n
    replaced (truth p b) = truth (to p) b
    replaced (variable v) = read_name v (actual_of bound v.bytes)
    replaced (bit v j) = read_bit v j (actual_of bound v.bytes)
    replaced (not p e) = not (to p) (replaced e)
    replaced (int p e) = int (to p) (replaced e)
    replaced (arithmetic o p a b) = arithmetic o (to p) (replaced a) (replaced b)
    replaced (comparison o p a b) = comparison o (to p) (replaced a) (replaced b)
    replaced (logic o p a b) = logic o (to p) (replaced a) (replaced b)
    replaced (parens e) = parens (replaced e)
    replaced (instead e) = instead (replaced e)
    replaced (no_name p) = no_name (to p)

    abbrev pub target_replaced : Target Name → Target Name
    target_replaced (whole v) = changed_whole v (actual_of bound v.bytes)
    target_replaced (part v j) = part (changed_name v (actual_of bound v.bytes)) j

-- ---- which calls are refused

-- P7: a name, where one is assigned or indexed; or a bit, where one is raised, lowered or inverted; what is no formal is as it should be
abbrev pub name_form : Form → Bool
name_form (one_name v) = true
name_form (one_bit v j) = false
name_form neither = false

abbrev pub bit_form : Form → Bool
bit_form (one_name v) = true
bit_form (one_bit v j) = true
bit_form neither = false

abbrev pub is_name : Option Term → Bool
is_name none = true
is_name (some t) = name_form (form_of t)

abbrev pub is_bit : Option Term → Bool
is_bit none = true
is_bit (some t) = bit_form (form_of t)

-- P7: each use of a formal by the body's own statements is one that its actual allows; P8: what calls hand on is looked at when they are expanded
module _ (indexable raisable : List ℕ → Bool) where
  unfoldable pub allows_term : Term → Bool
  allows_term (literal p n) = true
  allows_term (truth p b) = true
  allows_term (variable v) = true
  allows_term (bit v j) = indexable v.bytes
  allows_term (not p e) = allows_term e
  allows_term (int p e) = allows_term e
  allows_term (arithmetic o p a b) = both (allows_term a) (allows_term b)
  allows_term (comparison o p a b) = both (allows_term a) (allows_term b)
  allows_term (logic o p a b) = both (allows_term a) (allows_term b)
  allows_term (parens e) = allows_term e
  allows_term (instead e) = allows_term e
  allows_term (no_name p) = true

  abbrev pub allows_target : Target Name → Bool
  allows_target (whole v) = raisable v.bytes
  allows_target (part v j) = indexable v.bytes

  unfoldable mutual
    pub allows : Command → Bool
    allows (skip p) = true
    allows (delay p q n) = true
    allows (change p c t) = allows_target t
    allows (assign v e) = both (indexable v.bytes) (allows_term e)
    allows (choice p e a b) = both (allows_term e) (both (allows_all a) (allows_all b))
    allows (while p e b) = both (allows_term e) (allows_all b)
    allows (loop p b) = allows_all b
    allows (exit p) = true
    allows (break p) = true
    allows (switch p ts) = allows_tests ts
    allows (parallel p bs) = allows_each bs
    allows (call v ts) = true
    allows (passing p k) = true

    pub allows_all : Commands → Bool
    allows_all end = true
    allows_all (l ⨾ ls) = both (allows l) (allows_all ls)

    pub allows_tests : Tests → Bool
    allows_tests (default d) = allows_all d
    allows_tests (case p e b ts) = both (allows_term e) (both (allows_all b) (allows_tests ts))

    pub allows_each : Strands → Bool
    allows_each unexpanded.none = true
    allows_each (b ∥ bs) = both (allows_all b) (allows_each bs)

abbrev pub allowed_by : List (Bound Term) → Commands → Bool
allowed_by bound b = allows_all (λ x. is_name (actual_of bound x)) (λ x. is_bit (actual_of bound x)) b

-- P7: as many actuals as formals
unfoldable pub same_count : List Name → List Term → Bool
same_count [] [] = true
same_count [] (t ∷ ts) = false
same_count (n ∷ ns) [] = false
same_count (n ∷ ns) (t ∷ ts) = same_count ns ts

-- ---- expanding

unfoldable pub followed_by : Commands → Commands → Commands
followed_by end ms = ms
followed_by (l ⨾ ls) ms = l ⨾ followed_by ls ms

abbrev pub alone : Command → Commands
alone l = l ⨾ end

-- P4: statements with their formals replaced, and for each call what `calls` puts there
module _ (calls : Name → List Term → Commands) (to : ℕ → ℕ) (bound : List (Bound Term)) where
  unfoldable mutual
    pub expand : Command → Commands
    expand (skip p) = alone (skip (to p))
    expand (delay p q n) = alone (delay (to p) (to q) n)
    expand (change p c t) = alone (change (to p) c (target_replaced to bound t))
    expand (assign v e) = alone (assign (changed_name to v (actual_of bound v.bytes)) (replaced to bound e))
    expand (choice p e a b) = alone (choice (to p) (replaced to bound e) (expand_all a) (expand_all b))
    expand (while p e b) = alone (while (to p) (replaced to bound e) (expand_all b))
    expand (loop p b) = alone (loop (to p) (expand_all b))
    expand (exit p) = alone (exit (to p))
    expand (break p) = alone (break (to p))
    expand (switch p ts) = alone (switch (to p) (expand_tests ts))
    expand (parallel p bs) = alone (parallel (to p) (expand_each bs))
    expand (call v ts) = calls (moved to v) (map (replaced to bound) ts)
    expand (passing p k) = alone (passing (to p) k)

    pub expand_all : Commands → Commands
    expand_all end = end
    expand_all (l ⨾ ls) = followed_by (expand l) (expand_all ls)

    pub expand_tests : Tests → Tests
    expand_tests (default d) = default (expand_all d)
    expand_tests (case p e b ts) = case (to p) (replaced to bound e) (expand_all b) (expand_tests ts)

    pub expand_each : Strands → Strands
    expand_each unexpanded.none = unexpanded.none
    expand_each (b ∥ bs) = expand_all b ∥ expand_each bs

-- P4, P6: what a call stands for that sees these procedures, the last declared first; a body sees those declared before its own. P7: a call that is refused stays. P9: every place becomes `at`
unfoldable pub called : List Procedure → ℕ → Name → List Term → Commands
called [] at v ts = alone (call v ts)
called (p ∷ ps) at v ts =
    cond (same_bytes p.name.bytes v.bytes)
    (cond (same_count p.formals ts)
    (cond (allowed_by (bind p.formals ts) p.body) (expand_all (called ps at) (λ q. at) (bind p.formals ts) p.body) (alone (call v ts)))
    (alone (call v ts)))
    (called ps at v ts)

-- P13: the sizes that an expansion passes by itself, Z5 to Z8 and Z9
abbrev pub sizes_passed : Commands → List ℕ
sizes_passed x = body_sizes (base_all x) ++ level_faults 0 x

-- P14: how many activities a procedure can have
pub record Wide : Type 0 where
  pub name : List ℕ
  pub formals : List Name
  pub activities : ℕ

unfoldable pub wide_call : List Wide → Name → List Term → ℕ
wide_call [] v ts = 1
wide_call (w ∷ ws) v ts = cond (same_bytes w.name v.bytes) (cond (same_count w.formals ts) w.activities 1) (wide_call ws v ts)

module _ (ws : List Wide) where
  unfoldable mutual
    pub wide : Command → ℕ
    wide (skip p) = 1
    wide (delay p q n) = 1
    wide (change p c t) = 1
    wide (assign v e) = 1
    wide (choice p e a b) = max (wide_all a) (wide_all b)
    wide (while p e b) = wide_all b
    wide (loop p b) = wide_all b
    wide (exit p) = 1
    wide (break p) = 1
    wide (switch p ts) = wide_tests ts
    wide (parallel p bs) = min (suc most_activities) (wide_sum bs)
    wide (call v ts) = wide_call ws v ts
    wide (passing p k) = min (suc most_activities) k

    pub wide_all : Commands → ℕ
    wide_all end = 1
    wide_all (l ⨾ ls) = max (wide l) (wide_all ls)

    pub wide_tests : Tests → ℕ
    wide_tests (default d) = wide_all d
    wide_tests (case p e b ts) = max (wide_all b) (wide_tests ts)

    pub wide_sum : Strands → ℕ
    wide_sum unexpanded.none = 0
    wide_sum (b ∥ bs) = wide_all b + wide_sum bs

abbrev pub with_wide : Procedure → List Wide → List Wide
with_wide p ws = record { name = p.name.bytes; formals = p.formals; activities = wide_all ws p.body } ∷ ws

unfoldable pub wides : List Procedure → List Wide
wides [] = []
wides (p ∷ ps) = with_wide p (wides ps)

-- P14: the activities of a call that passes a size, by the statements and parts too many in its expansion
abbrev pub activities_of : List Procedure → Name → List Term → Commands → List ℕ → ℕ
activities_of ps v ts x [] = activities_all (base_all x)
activities_of ps v ts x (p ∷ qs) = wide_call (wides ps) v ts

-- P13: where a size is passed only the call's place and activities are kept, so nothing in it is looked through
abbrev pub if_within : List Procedure → Name → List Term → Commands → List ℕ → Commands
if_within ps v ts x [] = x
if_within ps v ts x (p ∷ qs) = alone (passing v.place (activities_of ps v ts x (count_faults (base_all x))))

abbrev pub within_sizes : List Procedure → Name → List Term → Commands → Commands
within_sizes ps v ts x = if_within ps v ts x (sizes_passed x)

-- P9: the outermost call is the place of all that it stands for, its actuals too
unfoldable pub outermost : List Procedure → Name → List Term → Commands
outermost ps v ts = within_sizes ps v ts (called ps v.place v (map (replaced (λ q. v.place) []) ts))

-- ---- the expanded program

-- P6: the procedures, the last declared first
unfoldable pub procedures_from : List Procedure → List DeclaredName → List Procedure
procedures_from ps [] = ps
procedures_from ps (a_variable d ∷ ds) = procedures_from ps ds
procedures_from ps (a_procedure p ∷ ds) = procedures_from (p ∷ ps) ds

unfoldable pub variables_of : List DeclaredName → List Declaration
variables_of [] = []
variables_of (a_variable d ∷ ds) = d ∷ variables_of ds
variables_of (a_procedure p ∷ ds) = variables_of ds

unfoldable pub expanded_body : Unexpanded → Commands
expanded_body w = expand_all (outermost (procedures_from [] w.declared)) (λ p. p) [] w.body

-- P10: its statements are numbered as those of any program, each expansion's by themselves
unfoldable pub expanded : Unexpanded → Source
expanded w = record { name = w.name; declared = variables_of w.declared; body = base_all (expanded_body w) }
