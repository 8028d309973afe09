-- The places of faults 6, 7 and 10 in a call's expansion, told by walking the bodies with what is known of the actuals.
-- Assumes nothing.
use mathlib.Core.Path.{◌≡◌, refl, sym, ap, ap₂, ◌∙◌}
use mathlib.Core.List.{List, [], ◌∷◌, ◌++◌, map, append_assoc}
use Prim.Native.Nat.{ℕ, zero, suc}
use Rattle.meaning.specs.Tree as tree
use Rattle.meaning.specs.Tree.{Name, Expr, Head, Stmts, Cases, Branches, Change, Target}
use Rattle.meaning.specs.Declared.{Declaration, look_up}
use Rattle.meaning.specs.Items.{Item, statement, test, items, items_all, items_cases, items_each, within, own, parts_of}
use Rattle.meaning.specs.Names.{gather, names_in, changed_by, unknown}
use Rattle.meaning.specs.Kinds.{kind_of, part_kind, item_kind}
use Rattle.meaning.specs.Worst.{combined, worst, part_worst}
use Rattle.meaning.specs.Unexpanded.{Term, Command, skip, delay, change, assign, choice, while, loop, exit, break, switch, parallel, call, passing, Commands, end, ◌⨾◌, Tests, default, case, Strands, ◌∥◌, Procedure}
use Rattle.meaning.specs.Unexpanded as unexpanded
use Rattle.meaning.specs.Base.{head_at, base_term, idle, base, base_all, base_tests, base_each}
use Rattle.meaning.specs.Expansion.{called}
use Rattle.meaning.specs.Procedures.{found_in, found_tests, found_each, calls_refused}
use Rattle.meaning.proofs.Lists.{gather_append}
use Rattle.expand_law.specs.Accounts.{Account, told, known}
use Rattle.expand_law.specs.Walks.{Grouped, walk, walk_all, walk_tests, walk_each, called_by}
use Rattle.expand_law.specs.Faults.{Marks, marking_with, marking, no_marks, refused_walk, Told, kind_account, kind_marks, worst_account, name_account, name_marks, part_marks}
use Rattle.expand_law.proofs.Walks.{called-walked}

pub append-none : {A : Type 0} (l : List A) → l ++ [] ≡ l
append-none [] = refl
append-none (x ∷ l) = ap (λ r. x ∷ r) (append-none l)

pub marks_grouped : {A : Type 0} (refused : ℕ → List ℕ) (m : Marks A) → Grouped (marking_with refused m)
marks_grouped refused m = record { left = λ l. refl; right = λ l. append-none l; either = λ a b c. append_assoc a b c }

-- ---- what items have is what marks say

pub record Agrees {A : Type 0} (f : Account A) (h : Item → List ℕ) (m : Marks A) : Type 0 where
  pub skips : (d : Head) → h (statement (tree.skip d)) ≡ []
  pub delays : (d : Head) (q n : ℕ) → h (statement (tree.delay d q n)) ≡ []
  pub changes : (p : ℕ) (c : Change) (t : Target Name) → h (statement (tree.change (head_at p) c t)) ≡ m.of_target p t
  pub assigns : (v : Name) (e : Term) → h (statement (tree.assign (head_at v.place) v (base_term e))) ≡ m.of_assigned v (known f e)
  pub choices : (p : ℕ) (e : Term) (a b : Stmts Name) → h (statement (tree.choice (head_at p) (base_term e) a b)) ≡ m.of_test p (known f e)
  pub whiles : (p : ℕ) (e : Term) (b : Stmts Name) → h (statement (tree.while (head_at p) (base_term e) b)) ≡ m.of_test p (known f e)
  pub loops : (d : Head) (b : Stmts Name) → h (statement (tree.loop d b)) ≡ []
  pub exits : (d : Head) → h (statement (tree.exit d)) ≡ []
  pub breaks : (d : Head) → h (statement (tree.break d)) ≡ []
  pub switches : (d : Head) (cs : Cases Name) → h (statement (tree.switch d cs)) ≡ []
  pub parallels : (d : Head) (bs : Branches Name) → h (statement (tree.parallel d bs)) ≡ []
  pub tests : (p : ℕ) (e : Term) → h (test (head_at p) (base_term e)) ≡ m.of_test p (known f e)

module _ {A : Type 0} (f : Account A) (h : Item → List ℕ) (m : Marks A) (g : Agrees f h m) where
  idle_marked : (p k : ℕ) → gather h (items_each (idle p k)) ≡ []
  unfolding gather items idle
  idle_marked p zero = refl
  idle_marked p (suc k) = ap₂ ◌++◌ (g.skips (head_at p)) (idle_marked p k)

  one : {l : List ℕ} → l ≡ [] → l ++ [] ≡ []
  one {l} e = append-none l ∙ e

  mutual
    unfolding gather items base walk

    line_marked : (c : Command) → gather h (items (base c)) ≡ walk f (marking m) c
    line_marked (skip p) = one (g.skips (head_at p))
    line_marked (delay p q n) = one (g.delays (head_at p) q n)
    line_marked (change p c t) = append-none (h (statement (tree.change (head_at p) c t))) ∙ g.changes p c t
    line_marked (assign v e) = append-none (h (statement (tree.assign (head_at v.place) v (base_term e)))) ∙ g.assigns v e
    line_marked (choice p e a b) = ap₂ ◌++◌ (g.choices p e (base_all a) (base_all b)) (gather_append h (items_all (base_all a)) (items_all (base_all b)) ∙ ap₂ ◌++◌ (all_marked_lem a) (all_marked_lem b))
    line_marked (while p e b) = ap₂ ◌++◌ (g.whiles p e (base_all b)) (all_marked_lem b)
    line_marked (loop p b) = ap₂ ◌++◌ (g.loops (head_at p) (base_all b)) (all_marked_lem b)
    line_marked (exit p) = one (g.exits (head_at p))
    line_marked (break p) = one (g.breaks (head_at p))
    line_marked (switch p ts) = ap₂ ◌++◌ (g.switches (head_at p) (base_tests ts)) (tests_marked ts)
    line_marked (parallel p bs) = ap₂ ◌++◌ (g.parallels (head_at p) (base_each bs)) (each_marked bs)
    line_marked (call v ts) = one (g.skips (head_at v.place))
    line_marked (passing p k) = ap₂ ◌++◌ (g.parallels (head_at p) (idle p k)) (idle_marked p k)

    pub all_marked_lem : (x : Commands) → gather h (items_all (base_all x)) ≡ walk_all f (marking m) x
    all_marked_lem end = refl
    all_marked_lem (l ⨾ ls) = gather_append h (items (base l)) (items_all (base_all ls)) ∙ ap₂ ◌++◌ (line_marked l) (all_marked_lem ls)

    tests_marked : (ts : Tests) → gather h (items_cases (base_tests ts)) ≡ walk_tests f (marking m) ts
    tests_marked (default d) = all_marked_lem d
    tests_marked (case p e b ts) = ap₂ ◌++◌ (g.tests p e) (gather_append h (items_all (base_all b)) (items_cases (base_tests ts)) ∙ ap₂ ◌++◌ (all_marked_lem b) (tests_marked ts))

    each_marked : (bs : Strands) → gather h (items_each (base_each bs)) ≡ walk_each f (marking m) bs
    each_marked unexpanded.none = refl
    each_marked (b ∥ bs) = gather_append h (items_all (base_all b)) (items_each (base_each bs)) ∙ ap₂ ◌++◌ (all_marked_lem b) (each_marked bs)

  -- .. and of a call, by what is known of its actuals
  pub call_marked : (ps : List Procedure) (v : Name) (ts : List Term) → gather h (items_all (base_all (called ps v.place v ts))) ≡ called_by f (marking m) ps v.place v.bytes (map (known f) ts)
  call_marked ps v ts = all_marked_lem (called ps v.place v ts) ∙ sym (called-walked f (marking m) (marks_grouped (λ p. []) m) ps v.place v ts refl)

-- ---- refused calls

module _ {A : Type 0} (f : Account A) where
  mutual
    unfolding found_in walk

    line_refused : (c : Command) → found_in (λ v. v.place ∷ []) (λ p. []) c ≡ walk f refused_walk c
    line_refused (skip p) = refl
    line_refused (delay p q n) = refl
    line_refused (change p c t) = refl
    line_refused (assign v e) = refl
    line_refused (choice p e a b) = ap₂ ◌++◌ (all-refused a) (all-refused b)
    line_refused (while p e b) = all-refused b
    line_refused (loop p b) = all-refused b
    line_refused (exit p) = refl
    line_refused (break p) = refl
    line_refused (switch p ts) = tests-refused ts
    line_refused (parallel p bs) = each-refused bs
    line_refused (call v ts) = refl
    line_refused (passing p k) = refl

    all-refused : (x : Commands) → calls_refused x ≡ walk_all f refused_walk x
    all-refused end = refl
    all-refused (l ⨾ ls) = ap₂ ◌++◌ (line_refused l) (all-refused ls)

    tests-refused : (ts : Tests) → found_tests (λ v. v.place ∷ []) (λ p. []) ts ≡ walk_tests f refused_walk ts
    tests-refused (default d) = all-refused d
    tests-refused (case p e b ts) = ap₂ ◌++◌ (all-refused b) (tests-refused ts)

    each-refused : (bs : Strands) → found_each (λ v. v.place ∷ []) (λ p. []) bs ≡ walk_each f refused_walk bs
    each-refused unexpanded.none = refl
    each-refused (b ∥ bs) = ap₂ ◌++◌ (all-refused b) (each-refused bs)

  pub call-refused : (ps : List Procedure) (v : Name) (ts : List Term) → calls_refused (called ps v.place v ts) ≡ called_by f refused_walk ps v.place v.bytes (map (known f) ts)
  call-refused ps v ts = all-refused (called ps v.place v ts) ∙ sym (called-walked f refused_walk (marks_grouped (λ p. p ∷ []) no_marks) ps v.place v ts refl)

-- ---- parts: whatever is said of each of them

-- each part's own places, in text order
abbrev own_places : (Expr Name → List ℕ) → Item → List ℕ
own_places g i = gather g (own i)

parts-own : (g : Expr Name → List ℕ) (is : List Item) → gather g (parts_of is) ≡ gather (own_places g) is
unfolding gather parts_of
parts-own g [] = refl
parts-own g (i ∷ is) = gather_append g (own i) (parts_of is) ∙ ap (λ l. own_places g i ++ l) (parts-own g is)

module _ {X : Type 0} (f : Account (Told X)) (g : Expr Name → List ℕ) (right : (e : Expr Name) → (told f e).places ≡ gather g (within e)) where
  parts_agree : Agrees f (own_places g) part_marks
  unfolding gather
  parts_agree =
      record {
        skips = λ d. refl;
        delays = λ d q n. refl;
        changes = λ p c t. refl;
        assigns = λ v e. sym (right (base_term e));
        choices = λ p e a b. sym (right (base_term e));
        whiles = λ p e b. sym (right (base_term e));
        loops = λ d b. refl;
        exits = λ d. refl;
        breaks = λ d. refl;
        switches = λ d cs. refl;
        parallels = λ d bs. refl;
        tests = λ p e. sym (right (base_term e));
      }

  pub call-parts : (ps : List Procedure) (v : Name) (ts : List Term)
      → gather g (parts_of (items_all (base_all (called ps v.place v ts)))) ≡ called_by f (marking part_marks) ps v.place v.bytes (map (known f) ts)
  call-parts ps v ts = parts-own g (items_all (base_all (called ps v.place v ts))) ∙ call_marked f (own_places g) part_marks parts_agree ps v ts

-- places in the left operand, at the operator and in the right operand
module _ (g : Expr Name → List ℕ) where
  pub around : (a b e : Expr Name) (x y : List ℕ) → x ≡ gather g (within a) → y ≡ gather g (within b) → x ++ (g e ++ y) ≡ gather g (within a ++ (e ∷ within b))
  unfolding gather
  around a b e x y h k = ap₂ (λ (u v : List ℕ). u ++ (g e ++ v)) h k ∙ sym (gather_append g (within a) (e ∷ within b))

-- ---- 7

module _ (ds : List Declaration) where
  kind-told : (e : Expr Name) → (told (kind_account ds) e).is ≡ kind_of ds e
  unfolding told
  kind-told (tree.literal p n) = refl
  kind-told (tree.truth p b) = refl
  kind-told (tree.variable v) = refl
  kind-told (tree.bit v j) = refl
  kind-told (tree.not p e) = refl
  kind-told (tree.int p e) = refl
  kind-told (tree.arithmetic o p a b) = refl
  kind-told (tree.comparison o p a b) = refl
  kind-told (tree.logic o p a b) = refl

  kind-places : (e : Expr Name) → (told (kind_account ds) e).places ≡ gather (part_kind ds) (within e)
  unfolding told gather within
  kind-places (tree.literal p n) = refl
  kind-places (tree.truth p b) = refl
  kind-places (tree.variable v) = refl
  kind-places (tree.bit v j) = refl
  kind-places (tree.not p e) = rw (kind-told e, kind-places e) refl
  kind-places (tree.int p e) = rw (kind-told e, kind-places e) refl
  kind-places (tree.arithmetic o p a b) = rw (kind-told a, kind-told b) (around (part_kind ds) a b (tree.arithmetic o p a b) _ _ (kind-places a) (kind-places b))
  kind-places (tree.comparison o p a b) = rw (kind-told a, kind-told b) (around (part_kind ds) a b (tree.comparison o p a b) _ _ (kind-places a) (kind-places b))
  kind-places (tree.logic o p a b) = rw (kind-told a, kind-told b) (around (part_kind ds) a b (tree.logic o p a b) _ _ (kind-places a) (kind-places b))

  kinds_agree : Agrees (kind_account ds) (item_kind ds) (kind_marks ds)
  kinds_agree =
      record {
        skips = λ d. refl;
        delays = λ d q n. refl;
        changes = λ p c t. refl;
        assigns = λ v e. rw (kind-told (base_term e)) refl;
        choices = λ p e a b. rw (kind-told (base_term e)) refl;
        whiles = λ p e b. rw (kind-told (base_term e)) refl;
        loops = λ d b. refl;
        exits = λ d. refl;
        breaks = λ d. refl;
        switches = λ d cs. refl;
        parallels = λ d bs. refl;
        tests = λ p e. rw (kind-told (base_term e)) refl;
      }

  -- ---- 10

  worst-told : (e : Expr Name) → (told (worst_account ds) e).is ≡ worst (λ v. look_up ds v.bytes) e
  unfolding told worst
  worst-told (tree.literal p n) = refl
  worst-told (tree.truth p b) = refl
  worst-told (tree.variable v) = refl
  worst-told (tree.bit v j) = refl
  worst-told (tree.not p e) = refl
  worst-told (tree.int p e) = refl
  worst-told (tree.arithmetic o p a b) = ap₂ (combined o) (worst-told a) (worst-told b)
  worst-told (tree.comparison o p a b) = refl
  worst-told (tree.logic o p a b) = refl

  worst-places : (e : Expr Name) → (told (worst_account ds) e).places ≡ gather (part_worst ds) (within e)
  unfolding told gather within
  worst-places (tree.literal p n) = refl
  worst-places (tree.truth p b) = refl
  worst-places (tree.variable v) = refl
  worst-places (tree.bit v j) = refl
  worst-places (tree.not p e) = worst-places e
  worst-places (tree.int p e) = worst-places e
  worst-places (tree.arithmetic o p a b) = rw (worst-told a, worst-told b) (around (part_worst ds) a b (tree.arithmetic o p a b) _ _ (worst-places a) (worst-places b))
  worst-places (tree.comparison o p a b) = around (part_worst ds) a b (tree.comparison o p a b) _ _ (worst-places a) (worst-places b)
  worst-places (tree.logic o p a b) = around (part_worst ds) a b (tree.logic o p a b) _ _ (worst-places a) (worst-places b)

  -- ---- 6

  -- the unknown names of a part by itself
  abbrev unknown_in : Expr Name → List ℕ
  unknown_in e = gather (unknown ds) (names_in e)

  name-places : (e : Expr Name) → (told (name_account ds) e).places ≡ gather unknown_in (within e)
  unfolding told gather within
  name-places (tree.literal p n) = refl
  name-places (tree.truth p b) = refl
  name-places (tree.variable v) = sym (append-none (unknown ds v ++ []))
  name-places (tree.bit v j) = sym (append-none (unknown ds v ++ []))
  name-places (tree.not p e) = name-places e
  name-places (tree.int p e) = name-places e
  name-places (tree.arithmetic o p a b) = around unknown_in a b (tree.arithmetic o p a b) _ _ (name-places a) (name-places b)
  name-places (tree.comparison o p a b) = around unknown_in a b (tree.comparison o p a b) _ _ (name-places a) (name-places b)
  name-places (tree.logic o p a b) = around unknown_in a b (tree.logic o p a b) _ _ (name-places a) (name-places b)

  abbrev changed_unknown : Item → List ℕ
  changed_unknown i = gather (unknown ds) (changed_by i)

  names_agree : Agrees (name_account ds) changed_unknown (name_marks ds)
  unfolding gather
  names_agree =
      record {
        skips = λ d. refl;
        delays = λ d q n. refl;
        changes = λ p c t. refl;
        assigns = λ v e. refl;
        choices = λ p e a b. refl;
        whiles = λ p e b. refl;
        loops = λ d b. refl;
        exits = λ d. refl;
        breaks = λ d. refl;
        switches = λ d cs. refl;
        parallels = λ d bs. refl;
        tests = λ p e. refl;
      }

  -- what is gathered of what is gathered
  twice : {B C : Type 0} (h : B → List C) (k : C → List ℕ) (l : List B) → gather k (gather h l) ≡ gather (λ b. gather k (h b)) l
  unfolding gather
  twice h k [] = refl
  twice h k (b ∷ l) = gather_append k (h b) (gather h l) ∙ ap (λ r. gather k (h b) ++ r) (twice h k l)

  -- ---- of a call

  module _ (ps : List Procedure) (v : Name) (ts : List Term) where
    abbrev expansion : List Item
    expansion = items_all (base_all (called ps v.place v ts))

    pub call-kinds : gather (item_kind ds) expansion ≡ called_by (kind_account ds) (marking (kind_marks ds)) ps v.place v.bytes (map (known (kind_account ds)) ts)
    call-kinds = call_marked (kind_account ds) (item_kind ds) (kind_marks ds) kinds_agree ps v ts

    pub call-part-kinds : gather (part_kind ds) (parts_of expansion) ≡ called_by (kind_account ds) (marking part_marks) ps v.place v.bytes (map (known (kind_account ds)) ts)
    call-part-kinds = call-parts (kind_account ds) (part_kind ds) kind-places ps v ts

    pub call-worst : gather (part_worst ds) (parts_of expansion) ≡ called_by (worst_account ds) (marking part_marks) ps v.place v.bytes (map (known (worst_account ds)) ts)
    call-worst = call-parts (worst_account ds) (part_worst ds) worst-places ps v ts

    pub call-changed : gather (unknown ds) (gather changed_by expansion) ≡ called_by (name_account ds) (marking (name_marks ds)) ps v.place v.bytes (map (known (name_account ds)) ts)
    call-changed = twice changed_by (unknown ds) expansion ∙ call_marked (name_account ds) changed_unknown (name_marks ds) names_agree ps v ts

    pub call-names : gather (unknown ds) (gather names_in (parts_of expansion)) ≡ called_by (name_account ds) (marking part_marks) ps v.place v.bytes (map (known (name_account ds)) ts)
    call-names = twice names_in (unknown ds) (parts_of expansion) ∙ call-parts (name_account ds) unknown_in name-places ps v ts
