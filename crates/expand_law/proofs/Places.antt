-- P9: every fault of an outermost call's expansion stands at that call, so it is enough to know whether there is one.
-- Assumes nothing.
use mathlib.Core.Path.{◌≡◌, refl, sym, subst}
use mathlib.Core.Bool.{Bool, true, false, cond, not as opposite}
use mathlib.Core.List.{List, [], ◌∷◌, ◌++◌, map}
use mathlib.Core.Option.{Option, none, some}
use Prim.Native.Nat.{ℕ, zero, suc, ◌+◌, min}
use native.Mathlib.Omega.{arith}
use lib.Dec.{ltb}
use lib.ListN.{replicate}
use Rattle.meaning.specs.Tree.{Name, Arithmetic, Comparison, Logic, Change, Target, whole, part}
use Rattle.meaning.specs.Declared.{Declaration, same_bytes, look_up}
use Rattle.meaning.specs.Items.{items_all, parts_of, place_of}
use Rattle.meaning.specs.Names.{gather, when, missing, names_in, changed_by, unknown}
use Rattle.meaning.specs.Kinds.{is_truth, is_whole, both, has_bit, comparable, changeable, assignable, item_kind, part_kind}
use Rattle.meaning.specs.Worst.{most_size, combined, part_worst}
use Rattle.meaning.specs.Jumps.{jump_all}
use Rattle.meaning.specs.Sizes.{most_delay, statement_place, item_size}
use Rattle.meaning.specs.States.{most_activities}
use Rattle.meaning.specs.Faults.{least}
use Rattle.meaning.specs.Unexpanded.{Term, literal, truth, variable, bit, not, int, arithmetic, comparison, logic, parens, instead, no_name, Command, skip, delay, change, assign, choice, while, loop, exit, break, switch, parallel, call, passing, Commands, end, ◌⨾◌, Tests, default, case, Strands, ◌∥◌, Procedure, nameless}
use Rattle.meaning.specs.Unexpanded as unexpanded
use Rattle.meaning.specs.Levels.{most_levels, too_deep, level_faults}
use Rattle.meaning.specs.Base.{base_all}
use Rattle.meaning.specs.Expansion.{Bound, actual_of, bind, Form, one_name, one_bit, neither, moved, name_of_form, target_of_form, replaced, called}
use Rattle.meaning.specs.Procedures.{calls_refused}
use Rattle.meaning.proofs.Actuals.{as_many}
use Rattle.expand_law.specs.Accounts.{Account, Known, known, read_by, bit_of, bit_by, known_by}
use Rattle.expand_law.specs.Walks.{Walk, name_by, whole_by, target_by, walk_by, walk_all_by, walk_tests_by, walk_each_by, allowed_known, called_by}
use Rattle.expand_law.specs.Faults.{Marks, marking_with, marking, no_marks, refused_walk, Told, kind_account, kind_marks, worst_account, name_account, name_marks, part_marks}
use Rattle.expand_law.specs.Sizes.{size_walk, jump_walk, deep_walk, statement_walk, part_account}
use Rattle.expand_law.proofs.Accounts.{known-right}
use Rattle.expand_law.proofs.Faults.{call-refused, call-kinds, call-part-kinds, call-worst, call-changed, call-names}
use Rattle.expand_law.proofs.Sizes.{call-sizes, call-jumps, call-deep, call-statements, call-part-places}

-- ---- what is kept by each operator and each statement is kept by a call

module _ {A : Type 0} (f : Account A) (at : ℕ) (Q : A → Type 0) where
  abbrev pub FormAt : Form → Type 0
  FormAt (one_name v) = v.place ≡ at
  FormAt (one_bit v j) = v.place ≡ at
  FormAt neither = Unit

  -- the name that a term is stands there, and its account keeps Q
  abbrev pub KnownAt : Known A → Type 0
  KnownAt k = FormAt k.form × Q k.account

  abbrev pub EachKnown : List (Known A) → Type 0
  EachKnown [] = Unit
  EachKnown (k ∷ ks) = KnownAt k × EachKnown ks

  abbrev EachBound : List (Bound (Known A)) → Type 0
  EachBound [] = Unit
  EachBound (b ∷ bs) = KnownAt b.actual × EachBound bs

  abbrev IfAny : Option (Known A) → Type 0
  IfAny none = Unit
  IfAny (some k) = KnownAt k

  pub record AccountKeeps : Type 0 where
    pub literals : (n : ℕ) → Q (f.of_literal at n)
    pub truths : (b : Bool) → Q (f.of_truth at b)
    pub variables : (v : Name) → v.place ≡ at → Q (f.of_variable v)
    pub bits : (v : Name) (j : ℕ) → v.place ≡ at → Q (f.of_bit v j)
    pub nots : (a : A) → Q a → Q (f.of_not at a)
    pub ints : (a : A) → Q a → Q (f.of_int at a)
    pub arithmetics : (o : Arithmetic) (a b : A) → Q a → Q b → Q (f.of_arithmetic o at a b)
    pub comparisons : (o : Comparison) (a b : A) → Q a → Q b → Q (f.of_comparison o at a b)
    pub logics : (o : Logic) (a b : A) → Q a → Q b → Q (f.of_logic o at a b)

  found_at : (bs : List (Bound (Known A))) → EachBound bs → (x : List ℕ) → IfAny (actual_of bs x)
  unfolding actual_of
  found_at [] h x = tt
  found_at (b ∷ bs) h x = by (same_bytes b.formal x) (found_at bs h.1 x)
    where
      by : (t : Bool) → IfAny (actual_of bs x) → IfAny (cond t (some b.actual) (actual_of bs x))
      by true i = h.0
      by false i = i

  bound_at : (ns : List Name) (ks : List (Known A)) → EachKnown ks → EachBound (bind ns ks)
  unfolding bind
  bound_at [] ks h = tt
  bound_at (n ∷ ns) [] h = tt
  bound_at (n ∷ ns) (k ∷ ks) h = (h.0, bound_at ns ks h.1)

  module _ (keeps : AccountKeeps) where
    read_at : (v : Name) (o : Option (Known A)) → IfAny o → KnownAt (read_by f (λ q. at) v o)
    read_at v none h = (refl, keeps.variables (moved (λ q. at) v) refl)
    read_at v (some k) h = h

    bit_at : (v : Name) (j : ℕ) (o : Option (Known A)) → IfAny o → KnownAt (bit_by f (λ q. at) v j o)
    bit_at v j none h = (refl, keeps.bits (moved (λ q. at) v) j refl)
    bit_at v j (some k) h = by k.form h.0
      where
        by : (s : Form) → FormAt s → KnownAt (bit_of f (λ q. at) at j s)
        by (one_name w) e = (e, keeps.bits w j e)
        by (one_bit w i) e = (tt, keeps.variables (nameless at) refl)
        by neither e = (tt, keeps.variables (nameless at) refl)

    pub known_at : (ks : List (Bound (Known A))) → EachBound ks → (t : Term) → KnownAt (known_by f (λ q. at) ks t)
    unfolding known_by
    known_at ks h (literal p n) = (tt, keeps.literals n)
    known_at ks h (truth p b) = (tt, keeps.truths b)
    known_at ks h (variable v) = read_at v (actual_of ks v.bytes) (found_at ks h v.bytes)
    known_at ks h (bit v j) = bit_at v j (actual_of ks v.bytes) (found_at ks h v.bytes)
    known_at ks h (not p e) = (tt, keeps.nots (known_by f (λ q. at) ks e).account (known_at ks h e).1)
    known_at ks h (int p e) = (tt, keeps.ints (known_by f (λ q. at) ks e).account (known_at ks h e).1)
    known_at ks h (arithmetic o p a b) = (tt, keeps.arithmetics o (known_by f (λ q. at) ks a).account (known_by f (λ q. at) ks b).account (known_at ks h a).1 (known_at ks h b).1)
    known_at ks h (comparison o p a b) = (tt, keeps.comparisons o (known_by f (λ q. at) ks a).account (known_by f (λ q. at) ks b).account (known_at ks h a).1 (known_at ks h b).1)
    known_at ks h (logic o p a b) = (tt, keeps.logics o (known_by f (λ q. at) ks a).account (known_by f (λ q. at) ks b).account (known_at ks h a).1 (known_at ks h b).1)
    known_at ks h (parens e) = (tt, (known_at ks h e).1)
    known_at ks h (instead e) = known_at ks h e
    known_at ks h (no_name p) = (tt, keeps.variables (nameless at) refl)

    each_at : (ks : List (Bound (Known A))) → EachBound ks → (ts : List Term) → EachKnown (map (known_by f (λ q. at) ks) ts)
    each_at ks h [] = tt
    each_at ks h (t ∷ ts) = (known_at ks h t, each_at ks h ts)

    -- the actuals of an outermost call
    pub outermost_at : (ts : List Term) → EachKnown (map (known f) (map (replaced (λ q. at) []) ts))
    outermost_at [] = tt
    outermost_at (t ∷ ts) = (subst KnownAt (sym (known-right f (λ q. at) [] t)) (known_at [] tt t), outermost_at ts)

    module _ {M : Type 0} (w : Walk A M) (P : M → Type 0) where
      abbrev pub TargetAt : Target Name → Type 0
      TargetAt (whole v) = v.place ≡ at
      TargetAt (part v j) = v.place ≡ at

      pub record WalkKeeps : Type 0 where
        pub ends : P w.at_end
        pub thens : (a b : M) → P a → P b → P (w.and_then a b)
        pub skips : P (w.of_skip at)
        pub delays : (n : ℕ) → P (w.of_delay at at n)
        pub changes : (c : Change) (t : Target Name) → TargetAt t → P (w.of_change at c t)
        pub assigns : (v : Name) (k : Known A) → v.place ≡ at → KnownAt k → P (w.of_assign v k)
        pub choices : (k : Known A) (a b : M) → KnownAt k → P a → P b → P (w.of_choice at k a b)
        pub whiles : (k : Known A) (b : M) → KnownAt k → P b → P (w.of_while at k b)
        pub loops : (b : M) → P b → P (w.of_loop at b)
        pub exits : P (w.of_exit at)
        pub breaks : P (w.of_break at)
        pub switches : (b : M) → P b → P (w.of_switch at b)
        pub defaults : (b : M) → P b → P (w.of_default b)
        pub cases : (k : Known A) (a b : M) → KnownAt k → P a → P b → P (w.of_case at k a b)
        pub parallels : (b : M) → P b → P (w.of_parallel at b)
        pub nones : P w.of_none
        pub branches : (a b : M) → P a → P b → P (w.of_branch a b)
        pub calls : P (w.of_call at)
        pub passings : (k : ℕ) → P (w.of_passing at k)

      name_at_lem : (v : Name) (o : Option (Known A)) → IfAny o → (name_by f w at v o).place ≡ at
      name_at_lem v none h = refl
      name_at_lem v (some k) h = by k.form h.0
        where
          by : (s : Form) → FormAt s → (name_of_form (λ q. at) at s).place ≡ at
          by (one_name u) e = e
          by (one_bit u i) e = refl
          by neither e = refl

      whole_at : (v : Name) (o : Option (Known A)) → IfAny o → TargetAt (whole_by f w at v o)
      whole_at v none h = refl
      whole_at v (some k) h = by k.form h.0
        where
          by : (s : Form) → FormAt s → TargetAt (target_of_form (λ q. at) at s)
          by (one_name u) e = e
          by (one_bit u i) e = e
          by neither e = refl

      module _ (holds : WalkKeeps) where
        module _ (counts : List ℕ → List (Known A) → M) (right : (x : List ℕ) (ks : List (Known A)) → EachKnown ks → P (counts x ks)) (ks : List (Bound (Known A))) (h : EachBound ks) where
          target_at : (t : Target Name) → TargetAt (target_by f w at counts ks t)
          target_at (whole v) = whole_at v (actual_of ks v.bytes) (found_at ks h v.bytes)
          target_at (part v j) = name_at_lem v (actual_of ks v.bytes) (found_at ks h v.bytes)

          mutual
            unfolding walk_by

            line_at : (c : Command) → P (walk_by f w at counts ks c)
            line_at (skip p) = holds.skips
            line_at (delay p q n) = holds.delays n
            line_at (change p c t) = holds.changes c (target_by f w at counts ks t) (target_at t)
            line_at (assign v e) = holds.assigns (name_by f w at v (actual_of ks v.bytes)) (known_by f (λ q. at) ks e) (name_at_lem v (actual_of ks v.bytes) (found_at ks h v.bytes)) (known_at ks h e)
            line_at (choice p e a b) = holds.choices (known_by f (λ q. at) ks e) (walk_all_by f w at counts ks a) (walk_all_by f w at counts ks b) (known_at ks h e) (all_at a) (all_at b)
            line_at (while p e b) = holds.whiles (known_by f (λ q. at) ks e) (walk_all_by f w at counts ks b) (known_at ks h e) (all_at b)
            line_at (loop p b) = holds.loops (walk_all_by f w at counts ks b) (all_at b)
            line_at (exit p) = holds.exits
            line_at (break p) = holds.breaks
            line_at (switch p ts) = holds.switches (walk_tests_by f w at counts ks ts) (tests_at ts)
            line_at (parallel p bs) = holds.parallels (walk_each_by f w at counts ks bs) (strands_at bs)
            line_at (call v ts) = right v.bytes (map (known_by f (λ q. at) ks) ts) (each_at ks h ts)
            line_at (passing p k) = holds.passings k

            all_at : (x : Commands) → P (walk_all_by f w at counts ks x)
            all_at end = holds.ends
            all_at (l ⨾ ls) = holds.thens (walk_by f w at counts ks l) (walk_all_by f w at counts ks ls) (line_at l) (all_at ls)

            tests_at : (ts : Tests) → P (walk_tests_by f w at counts ks ts)
            tests_at (default d) = holds.defaults (walk_all_by f w at counts ks d) (all_at d)
            tests_at (case p e b ts) = holds.cases (known_by f (λ q. at) ks e) (walk_all_by f w at counts ks b) (walk_tests_by f w at counts ks ts) (known_at ks h e) (all_at b) (tests_at ts)

            strands_at : (bs : Strands) → P (walk_each_by f w at counts ks bs)
            strands_at unexpanded.none = holds.nones
            strands_at (b ∥ bs) = holds.branches (walk_all_by f w at counts ks b) (walk_each_by f w at counts ks bs) (all_at b) (strands_at bs)

        chosen : (a b c : Bool) (m n : M) → P m → P n → P (cond a (cond b (cond c m (w.of_call at)) (w.of_call at)) n)
        chosen true true true m n g k = g
        chosen true true false m n g k = holds.calls
        chosen true false c m n g k = holds.calls
        chosen false b c m n g k = k

        pub called-keeps : (ps : List Procedure) (x : List ℕ) (ks : List (Known A)) → EachKnown ks → P (called_by f w ps at x ks)
        unfolding called_by
        called-keeps [] x ks h = holds.calls
        called-keeps (p ∷ ps) x ks h =
            chosen (same_bytes p.name.bytes x) (as_many p.formals ks) (allowed_known f w (bind p.formals ks) p.body) (walk_all_by f w at (called_by f w ps at) (bind p.formals ks) p.body) (called_by f w ps at x ks)
            (all_at (called_by f w ps at) (λ y js g. called-keeps ps y js g) (bind p.formals ks) (bound_at p.formals ks h) p.body)
            (called-keeps ps x ks h)

-- ---- lists of places

abbrev pub AllAt : ℕ → List ℕ → Type 0
AllAt at [] = Unit
AllAt at (p ∷ l) = (p ≡ at) × AllAt at l

all_both : (at : ℕ) (a b : List ℕ) → AllAt at a → AllAt at b → AllAt at (a ++ b)
all_both at [] b g h = h
all_both at (p ∷ a) b g h = (g.0, all_both at a b g.1 h)

all-when : (at p : ℕ) (b : Bool) → p ≡ at → AllAt at (when b p)
all-when at p true e = (e, tt)
all-when at p false e = tt

all-before : (at : ℕ) (b : Bool) (l : List ℕ) → AllAt at l → AllAt at (when b at ++ l)
all-before at b l h = all_both at (when b at) l (all-when at at b refl) h

all_one : (at p : ℕ) (b : Bool) → p ≡ at → AllAt at (when b p ++ [])
all_one at p b e = all_both at (when b p) [] (all-when at p b e) tt

-- so the earliest of them is the call
pub least_at_lem : (at p : ℕ) (l : List ℕ) → AllAt at (p ∷ l) → least p l ≡ at
unfolding least
least_at_lem at p [] h = h.0
least_at_lem at p (q ∷ l) h =
    let e = h.0 in
    let k = h.1.0 in
    least_at_lem at (min p q) l (omega arith, h.1.1)

module _ {A : Type 0} (f : Account A) (at : ℕ) (Q : A → Type 0) (keeps : AccountKeeps f at Q) (refused : ℕ → List ℕ) (stands : AllAt at (refused at)) (m : Marks A) where
  marks_keep : ((t : Target Name) → TargetAt f at Q keeps (marking_with refused m) (AllAt at) t → AllAt at (m.of_target at t)) → ((v : Name) (k : Known A) → v.place ≡ at → KnownAt f at Q k → AllAt at (m.of_assigned v k))
      → ((k : Known A) → KnownAt f at Q k → AllAt at (m.of_test at k)) → WalkKeeps f at Q keeps (marking_with refused m) (AllAt at)
  marks_keep targets assigns tests =
      record {
        ends = tt;
        thens = λ a b g h. all_both at a b g h;
        skips = tt;
        delays = λ n. tt;
        changes = λ c t h. targets t h;
        assigns = assigns;
        choices = λ k a b e g h. all_both at (m.of_test at k) (a ++ b) (tests k e) (all_both at a b g h);
        whiles = λ k b e h. all_both at (m.of_test at k) b (tests k e) h;
        loops = λ b h. h;
        exits = tt;
        breaks = tt;
        switches = λ b h. h;
        defaults = λ b h. h;
        cases = λ k a b e g h. all_both at (m.of_test at k) (a ++ b) (tests k e) (all_both at a b g h);
        parallels = λ b h. h;
        nones = tt;
        branches = λ a b g h. all_both at a b g h;
        calls = stands;
        passings = λ k. tt;
      }

-- an account whose faults stand at the call
abbrev PlacesAt : {X : Type 0} → ℕ → Told X → Type 0
PlacesAt at a = AllAt at a.places

module _ (ds : List Declaration) (at : ℕ) where
  kinds_keep : AccountKeeps (kind_account ds) at (PlacesAt at)
  kinds_keep =
      record {
        literals = λ n. tt;
        truths = λ b. tt;
        variables = λ v e. tt;
        bits = λ v j e. all_one at v.place (opposite (has_bit (look_up ds v.bytes) j)) e;
        nots = λ a h. all-before at (is_whole a.is) a.places h;
        ints = λ a h. all-before at (is_whole a.is) a.places h;
        arithmetics = λ o a b g h. all_both at a.places (when (opposite (both (is_whole a.is) (is_whole b.is))) at ++ b.places) g (all-before at (opposite (both (is_whole a.is) (is_whole b.is))) b.places h);
        comparisons = λ o a b g h. all_both at a.places (when (opposite (comparable o a.is b.is)) at ++ b.places) g (all-before at (opposite (comparable o a.is b.is)) b.places h);
        logics = λ o a b g h. all_both at a.places (when (opposite (both (is_truth a.is) (is_truth b.is))) at ++ b.places) g (all-before at (opposite (both (is_truth a.is) (is_truth b.is))) b.places h);
      }

  worst-keeps : AccountKeeps (worst_account ds) at (PlacesAt at)
  worst-keeps =
      record {
        literals = λ n. tt;
        truths = λ b. tt;
        variables = λ v e. tt;
        bits = λ v j e. tt;
        nots = λ a h. h;
        ints = λ a h. h;
        arithmetics = λ o a b g h. all_both at a.places (when (ltb most_size (combined o a.is b.is)) at ++ b.places) g (all-before at (ltb most_size (combined o a.is b.is)) b.places h);
        comparisons = λ o a b g h. all_both at a.places b.places g h;
        logics = λ o a b g h. all_both at a.places b.places g h;
      }

  names_keep : AccountKeeps (name_account ds) at (PlacesAt at)
  names_keep =
      record {
        literals = λ n. tt;
        truths = λ b. tt;
        variables = λ v e. all_one at v.place (missing (look_up ds v.bytes)) e;
        bits = λ v j e. all_one at v.place (missing (look_up ds v.bytes)) e;
        nots = λ a h. h;
        ints = λ a h. h;
        arithmetics = λ o a b g h. all_both at a.places b.places g h;
        comparisons = λ o a b g h. all_both at a.places b.places g h;
        logics = λ o a b g h. all_both at a.places b.places g h;
      }

  parts_keep : {X : Type 0} (f : Account (Told X)) (keeps : AccountKeeps f at (PlacesAt at)) → WalkKeeps f at (PlacesAt at) keeps (marking part_marks) (AllAt at)
  parts_keep f keeps = marks_keep f at (PlacesAt at) keeps (λ p. []) tt part_marks (λ t h. tt) (λ v k e h. h.1) (λ k h. h.1)

  kind-marks_keep : WalkKeeps (kind_account ds) at (PlacesAt at) kinds_keep (marking (kind_marks ds)) (AllAt at)
  kind-marks_keep = marks_keep (kind_account ds) at (PlacesAt at) kinds_keep (λ p. []) tt (kind_marks ds) targets (λ v k e h. all-when at v.place (opposite (both (assignable (look_up ds v.bytes)) (is_whole k.account.is))) e) (λ k h. all-when at at (is_whole k.account.is) refl)
    where
      targets : (t : Target Name) → TargetAt (kind_account ds) at (PlacesAt at) kinds_keep (marking (kind_marks ds)) (AllAt at) t → AllAt at ((kind_marks ds).of_target at t)
      targets (whole v) e = all-when at at (opposite (changeable (look_up ds v.bytes))) refl
      targets (part v j) e = all-when at v.place (opposite (has_bit (look_up ds v.bytes) j)) e

  name-marks_keep : WalkKeeps (name_account ds) at (PlacesAt at) names_keep (marking (name_marks ds)) (AllAt at)
  name-marks_keep = marks_keep (name_account ds) at (PlacesAt at) names_keep (λ p. []) tt (name_marks ds) targets (λ v k e h. all_one at v.place (missing (look_up ds v.bytes)) e) (λ k h. tt)
    where
      targets : (t : Target Name) → TargetAt (name_account ds) at (PlacesAt at) names_keep (marking (name_marks ds)) (AllAt at) t → AllAt at ((name_marks {A = Told Unit} ds).of_target at t)
      targets (whole v) e = all_one at v.place (missing (look_up ds v.bytes)) e
      targets (part v j) e = all_one at v.place (missing (look_up ds v.bytes)) e

  refused-keeps : WalkKeeps (kind_account ds) at (PlacesAt at) kinds_keep refused_walk (AllAt at)
  refused-keeps = marks_keep (kind_account ds) at (PlacesAt at) kinds_keep (λ p. p ∷ []) (refl, tt) no_marks (λ t h. tt) (λ v k e h. tt) (λ k h. tt)

  sizes_keep : WalkKeeps (kind_account ds) at (PlacesAt at) kinds_keep size_walk (PlacesAt at)
  sizes_keep =
      record {
        ends = tt;
        thens = λ a b g h. all_both at a.places b.places g h;
        skips = tt;
        delays = λ n. all-when at at (ltb most_delay n) refl;
        changes = λ c t h. tt;
        assigns = λ v k e h. tt;
        choices = λ k a b e g h. all_both at a.places b.places g h;
        whiles = λ k b e h. h;
        loops = λ b h. h;
        exits = tt;
        breaks = tt;
        switches = λ b h. h;
        defaults = λ b h. h;
        cases = λ k a b e g h. all_both at a.places b.places g h;
        parallels = λ b h. all-before at (ltb most_activities b.is) b.places h;
        nones = tt;
        branches = λ a b g h. all_both at a.places b.places g h;
        calls = tt;
        passings = λ k. all-when at at (ltb most_activities k) refl;
      }

  abbrev JumpsAt : (Bool → Bool → List ℕ) → Type 0
  JumpsAt m = (l b : Bool) → AllAt at (m l b)

  jumps_keep : WalkKeeps (kind_account ds) at (PlacesAt at) kinds_keep jump_walk JumpsAt
  jumps_keep =
      record {
        ends = λ l b. tt;
        thens = λ x y g h l b. all_both at (x l b) (y l b) (g l b) (h l b);
        skips = λ l b. tt;
        delays = λ n l b. tt;
        changes = λ c t h l b. tt;
        assigns = λ v k e h l b. tt;
        choices = λ k x y e g h l b. all_both at (x l b) (y l b) (g l b) (h l b);
        whiles = λ k x e h l b. h true b;
        loops = λ x h l b. h true b;
        exits = λ l b. all-when at at (opposite l) refl;
        breaks = λ l b. all-when at at (opposite b) refl;
        switches = λ x h l b. h l true;
        defaults = λ x h l b. h l b;
        cases = λ k x y e g h l b. all_both at (x l b) (y l b) (g l b) (h l b);
        parallels = λ x h l b. h l true;
        nones = λ l b. tt;
        branches = λ x y g h l b. all_both at (x l b) (y l b) (g l b) (h l b);
        calls = λ l b. tt;
        passings = λ k l b. tt;
      }

  over_at : (n : ℕ) → AllAt at (too_deep n at)
  over_at n = all-when at at (ltb most_levels n) refl

  over_before : (n : ℕ) (l : List ℕ) → AllAt at l → AllAt at (too_deep n at ++ l)
  over_before n l h = all-before at (ltb most_levels n) l h

  abbrev DeepAt : (ℕ → List ℕ) → Type 0
  DeepAt m = (n : ℕ) → AllAt at (m n)

  deep-keeps : WalkKeeps (kind_account ds) at (PlacesAt at) kinds_keep deep_walk DeepAt
  deep-keeps =
      record {
        ends = λ n. tt;
        thens = λ x y g h n. all_both at (x n) (y n) (g n) (h n);
        skips = λ n. tt;
        delays = λ d n. tt;
        changes = λ c t h n. over_at (suc n);
        assigns = λ v k e h n. all-when at v.place (ltb most_levels (n + k.levels)) e;
        choices = λ k x y e g h n. over_before (suc n + k.levels) (x (suc n) ++ y (suc n)) (all_both at (x (suc n)) (y (suc n)) (g (suc n)) (h (suc n)));
        whiles = λ k x e h n. over_before (suc n + k.levels) (x (suc n)) (h (suc n));
        loops = λ x h n. over_before (suc n) (x (suc n)) (h (suc n));
        exits = λ n. tt;
        breaks = λ n. tt;
        switches = λ x h n. over_before (suc n) (x (suc n)) (h (suc n));
        defaults = λ x h n. h n;
        cases = λ k x y e g h n. over_before (n + k.levels) (x n ++ y n) (all_both at (x n) (y n) (g n) (h n));
        parallels = λ x h n. over_before (suc n) (x (suc n)) (h (suc n));
        nones = λ n. tt;
        branches = λ x y g h n. all_both at (x n) (y n) (g n) (h n);
        calls = λ n. tt;
        passings = λ k n. tt;
      }

  all_same : (k : ℕ) → AllAt at (replicate k at)
  all_same zero = tt
  all_same (suc k) = (refl, all_same k)

  statements_keep : WalkKeeps (kind_account ds) at (PlacesAt at) kinds_keep statement_walk (AllAt at)
  statements_keep =
      record {
        ends = tt;
        thens = λ a b g h. all_both at a b g h;
        skips = (refl, tt);
        delays = λ n. (refl, tt);
        changes = λ c t h. (refl, tt);
        assigns = λ v k e h. (e, tt);
        choices = λ k a b e g h. (refl, all_both at a b g h);
        whiles = λ k b e h. (refl, h);
        loops = λ b h. (refl, h);
        exits = (refl, tt);
        breaks = (refl, tt);
        switches = λ b h. (refl, h);
        defaults = λ b h. h;
        cases = λ k a b e g h. all_both at a b g h;
        parallels = λ b h. (refl, h);
        nones = tt;
        branches = λ a b g h. all_both at a b g h;
        calls = (refl, tt);
        passings = λ k. (refl, all_same k);
      }

  part-places_keep : AccountKeeps part_account at (PlacesAt at)
  part-places_keep =
      record {
        literals = λ n. (refl, tt);
        truths = λ b. (refl, tt);
        variables = λ v e. (e, tt);
        bits = λ v j e. (e, tt);
        nots = λ a h. (refl, h);
        ints = λ a h. (refl, h);
        arithmetics = λ o a b g h. all_both at a.places (at ∷ b.places) g (refl, h);
        comparisons = λ o a b g h. all_both at a.places (at ∷ b.places) g (refl, h);
        logics = λ o a b g h. all_both at a.places (at ∷ b.places) g (refl, h);
      }

-- ---- an outermost call

module _ (ds : List Declaration) (ps : List Procedure) (v : Name) (ts : List Term) where
  abbrev actuals : List Term
  actuals = map (replaced (λ q. v.place) []) ts

  abbrev expansion : Commands
  expansion = called ps v.place v actuals

  at_call : {A M : Type 0} (f : Account A) (Q : A → Type 0) (keeps : AccountKeeps f v.place Q) (w : Walk A M) (P : M → Type 0) → WalkKeeps f v.place Q keeps w P → P (called_by f w ps v.place v.bytes (map (known f) actuals))
  at_call f Q keeps w P holds = called-keeps f v.place Q keeps w P holds ps v.bytes (map (known f) actuals) (outermost_at f v.place Q keeps ts)

  -- 6, 7, 8, 9 and 10
  pub record FaultsAtCall : Type 0 where
    pub refused : AllAt v.place (calls_refused expansion)
    pub changed : AllAt v.place (gather (unknown ds) (gather changed_by (items_all (base_all expansion))))
    pub named : AllAt v.place (gather (unknown ds) (gather names_in (parts_of (items_all (base_all expansion)))))
    pub kinds : AllAt v.place (gather (item_kind ds) (items_all (base_all expansion)))
    pub part_kinds : AllAt v.place (gather (part_kind ds) (parts_of (items_all (base_all expansion))))
    pub jumps : (l b : Bool) → AllAt v.place (jump_all (base_all expansion) l b)
    pub sizes : AllAt v.place (gather item_size (items_all (base_all expansion)))
    pub levels : (n : ℕ) → AllAt v.place (level_faults n expansion)
    pub statements : AllAt v.place (gather statement_place (items_all (base_all expansion)))
    pub parts : AllAt v.place (map place_of (parts_of (items_all (base_all expansion))))
    pub worsts : AllAt v.place (gather (part_worst ds) (parts_of (items_all (base_all expansion))))

  pub faults_at_call : FaultsAtCall
  faults_at_call =
      let p = v.place in
      let kinds = kinds_keep ds p in
      let worst = worst-keeps ds p in
      let names = names_keep ds p in
      record {
        refused = subst (AllAt p) (sym (call-refused (kind_account ds) ps v actuals)) (at_call (kind_account ds) (PlacesAt p) kinds refused_walk (AllAt p) (refused-keeps ds p));
        changed = subst (AllAt p) (sym (call-changed ds ps v actuals)) (at_call (name_account ds) (PlacesAt p) names (marking (name_marks ds)) (AllAt p) (name-marks_keep ds p));
        named = subst (AllAt p) (sym (call-names ds ps v actuals)) (at_call (name_account ds) (PlacesAt p) names (marking part_marks) (AllAt p) (parts_keep ds p (name_account ds) names));
        kinds = subst (AllAt p) (sym (call-kinds ds ps v actuals)) (at_call (kind_account ds) (PlacesAt p) kinds (marking (kind_marks ds)) (AllAt p) (kind-marks_keep ds p));
        part_kinds = subst (AllAt p) (sym (call-part-kinds ds ps v actuals)) (at_call (kind_account ds) (PlacesAt p) kinds (marking part_marks) (AllAt p) (parts_keep ds p (kind_account ds) kinds));
        jumps = λ l b. subst (AllAt p) (sym (call-jumps (kind_account ds) ps v actuals l b)) (at_call (kind_account ds) (PlacesAt p) kinds jump_walk (JumpsAt ds p) (jumps_keep ds p) l b);
        sizes = subst (AllAt p) (sym (call-sizes (kind_account ds) ps v actuals)) (at_call (kind_account ds) (PlacesAt p) kinds size_walk (PlacesAt p) (sizes_keep ds p));
        levels = λ n. subst (AllAt p) (sym (call-deep (kind_account ds) ps v actuals n)) (at_call (kind_account ds) (PlacesAt p) kinds deep_walk (DeepAt ds p) (deep-keeps ds p) n);
        statements = subst (AllAt p) (sym (call-statements (kind_account ds) ps v actuals)) (at_call (kind_account ds) (PlacesAt p) kinds statement_walk (AllAt p) (statements_keep ds p));
        parts = subst (AllAt p) (sym (call-part-places ps v actuals)) (at_call part_account (PlacesAt p) (part-places_keep ds p) (marking part_marks) (AllAt p) (parts_keep ds p part_account (part-places_keep ds p)));
        worsts = subst (AllAt p) (sym (call-worst ds ps v actuals)) (at_call (worst_account ds) (PlacesAt p) worst (marking part_marks) (AllAt p) (parts_keep ds p (worst_account ds) worst));
      }
