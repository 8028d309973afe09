-- Levels, activities, delays and parallels too large, and jumps of a call's expansion, told by walking the bodies with what is known of the actuals.
-- Assumes nothing.
use mathlib.Core.Path.{◌≡◌, refl, sym, ap, ap₂, ◌∙◌, fun_ext}
use mathlib.Core.Logic.{◌↔◌}
use mathlib.Core.Bool.{Bool, true, false}
use mathlib.Core.List.{List, [], ◌∷◌, ◌++◌, map, append_assoc}
use Prim.Native.Nat.{ℕ, zero, suc, ◌+◌, ◌≤◌, max}
use native.Mathlib.Omega.{arith}
use borrow.Author.Tests.{ltb-false}
use lib.Dec.{ltb}
use lib.ListN.{replicate}
use Rattle.meaning.specs.Tree as tree
use Rattle.meaning.specs.Tree.{Name, Expr}
use Rattle.meaning.specs.Clock.{activities, activities_all, activities_cases, activities_sum}
use Rattle.meaning.specs.Items.{items, items_all, items_cases, items_each, within, parts_of, place_of}
use Rattle.meaning.specs.Names.{gather, when}
use Rattle.meaning.specs.Jumps.{jump_in, jump_all, jump_cases, jump_each}
use Rattle.meaning.specs.Sizes.{statement_place, item_size}
use Rattle.meaning.specs.States.{most_activities}
use Rattle.meaning.specs.Unexpanded.{Term, Command, skip, delay, change, assign, choice, while, loop, exit, break, switch, parallel, call, passing, Commands, end, ◌⨾◌, Tests, default, case, Strands, ◌∥◌, Procedure}
use Rattle.meaning.specs.Unexpanded as unexpanded
use Rattle.meaning.specs.Levels.{most_levels, levels_in, too_deep, level_fault, level_faults, level_tests, level_each}
use Rattle.meaning.specs.Base.{idle, base, base_all, base_tests, base_each}
use Rattle.meaning.specs.Expansion.{called}
use Rattle.meaning.proofs.Lists.{gather_append, both-empty}
use Rattle.meaning.proofs.Depth.{depth, depth_all, depth_tests, depth_each, lines_fit}
use Rattle.meaning.proofs.Wide.{idle-sum}
use Rattle.expand_law.specs.Accounts.{Account, told, known}
use Rattle.expand_law.specs.Walks.{Grouped, walk, walk_all, walk_tests, walk_each, called_by}
use Rattle.expand_law.specs.Faults.{marking, Told, part_marks}
use Rattle.expand_law.specs.Sizes.{level_walk, size_walk, jump_walk, deep_walk, statement_walk, part_account}
use Rattle.expand_law.proofs.Faults.{append-none, around, call-parts}
use Rattle.expand_law.proofs.Walks.{called-walked}

-- ---- levels

max-left : (m : ℕ) → max 0 m ≡ m
max-left m = omega arith

max-right : (m : ℕ) → max m 0 ≡ m
max-right m = omega arith

max-either : (l m n : ℕ) → max (max l m) n ≡ max l (max m n)
max-either l m n = omega arith

one_of_both : (m n : ℕ) → max (max 1 m) (max 1 n) ≡ max 1 (max m n)
one_of_both m n = omega arith

levels_grouped : {A : Type 0} → Grouped {A = A} level_walk
levels_grouped = record { left = max-left; right = max-right; either = max-either }

module _ {A : Type 0} (f : Account A) where
  mutual
    unfolding depth walk

    line-levels : (c : Command) → depth c ≡ walk f level_walk c
    line-levels (skip p) = refl
    line-levels (delay p q n) = refl
    line-levels (change p c t) = refl
    line-levels (assign v e) = refl
    line-levels (choice p e a b) = ap₂ (λ (x y : ℕ). suc (max (levels_in e) (max x y))) (all-levels a) (all-levels b)
    line-levels (while p e b) = ap (λ (x : ℕ). suc (max (levels_in e) x)) (all-levels b)
    line-levels (loop p b) = ap suc (all-levels b)
    line-levels (exit p) = refl
    line-levels (break p) = refl
    line-levels (switch p ts) = ap suc (tests-levels ts)
    line-levels (parallel p bs) = ap suc (each-levels bs)
    line-levels (call v ts) = refl
    line-levels (passing p k) = refl

    all-levels : (x : Commands) → depth_all x ≡ walk_all f level_walk x
    all-levels end = refl
    all-levels (l ⨾ ls) = ap₂ max (line-levels l) (all-levels ls)

    tests-levels : (ts : Tests) → depth_tests ts ≡ walk_tests f level_walk ts
    tests-levels (default d) = all-levels d
    tests-levels (case p e b ts) = ap₂ (λ (x y : ℕ). max (levels_in e) (max x y)) (all-levels b) (tests-levels ts)

    each-levels : (bs : Strands) → depth_each bs ≡ walk_each f level_walk bs
    each-levels unexpanded.none = refl
    each-levels (b ∥ bs) = ap₂ max (all-levels b) (each-levels bs)

  pub call-levels : (ps : List Procedure) (v : Name) (ts : List Term) → depth_all (called ps v.place v ts) ≡ called_by f level_walk ps v.place v.bytes (map (known f) ts)
  call-levels ps v ts = all-levels (called ps v.place v ts) ∙ sym (called-walked f level_walk levels_grouped ps v.place v ts refl)

-- no level too many opens exactly if the levels are few enough
not_over : (n p : ℕ) → too_deep n p ≡ [] → n ≤ most_levels
not_over n p e = by (ltb most_levels n) refl e
  where
    by : (b : Bool) → ltb most_levels n ≡ b → when b p ≡ [] → n ≤ most_levels
    by true h k = absurd (let z : ◌≡◌ {A = ℕ} 0 1 = cc in omega arith)
    by false h k = omega (arith, ltb-false most_levels n h)

mutual
  unfolding depth level_fault

  line-within : (n : ℕ) (c : Command) → n ≤ most_levels → level_fault n c ≡ [] → n + depth c ≤ most_levels
  line-within n (skip p) h e = omega arith
  line-within n (delay p q d) h e = omega arith
  line-within n (change p c t) h e = omega (arith, not_over (suc n) p e)
  line-within n (assign v t) h e = not_over (n + levels_in t) v.place e
  line-within n (choice p t a b) h e =
      let (x, y) = both-empty (too_deep (suc n + levels_in t) p) (level_faults (suc n) a ++ level_faults (suc n) b) e in
      let (u, w) = both-empty (level_faults (suc n) a) (level_faults (suc n) b) y in
      let k = not_over (suc n + levels_in t) p x in
      omega (arith, k, lines_within (suc n) a (omega arith) u, lines_within (suc n) b (omega arith) w)
  line-within n (while p t b) h e =
      let (x, y) = both-empty (too_deep (suc n + levels_in t) p) (level_faults (suc n) b) e in
      let k = not_over (suc n + levels_in t) p x in
      omega (arith, k, lines_within (suc n) b (omega arith) y)
  line-within n (loop p b) h e =
      let (x, y) = both-empty (too_deep (suc n) p) (level_faults (suc n) b) e in
      omega (arith, lines_within (suc n) b (not_over (suc n) p x) y)
  line-within n (exit p) h e = omega arith
  line-within n (break p) h e = omega arith
  line-within n (switch p ts) h e =
      let (x, y) = both-empty (too_deep (suc n) p) (level_tests (suc n) ts) e in
      omega (arith, tests-within (suc n) ts (not_over (suc n) p x) y)
  line-within n (parallel p bs) h e =
      let (x, y) = both-empty (too_deep (suc n) p) (level_each (suc n) bs) e in
      omega (arith, each_within (suc n) bs (not_over (suc n) p x) y)
  line-within n (call v ts) h e = omega arith
  line-within n (passing p k) h e = omega arith

  lines_within : (n : ℕ) (x : Commands) → n ≤ most_levels → level_faults n x ≡ [] → n + depth_all x ≤ most_levels
  lines_within n end h e = omega arith
  lines_within n (l ⨾ ls) h e =
      let (x, y) = both-empty (level_fault n l) (level_faults n ls) e in
      omega (arith, line-within n l h x, lines_within n ls h y)

  tests-within : (n : ℕ) (ts : Tests) → n ≤ most_levels → level_tests n ts ≡ [] → n + depth_tests ts ≤ most_levels
  tests-within n (default d) h e = lines_within n d h e
  tests-within n (case p t b ts) h e =
      let (x, y) = both-empty (too_deep (n + levels_in t) p) (level_faults n b ++ level_tests n ts) e in
      let (u, w) = both-empty (level_faults n b) (level_tests n ts) y in
      omega (arith, not_over (n + levels_in t) p x, lines_within n b h u, tests-within n ts h w)

  each_within : (n : ℕ) (bs : Strands) → n ≤ most_levels → level_each n bs ≡ [] → n + depth_each bs ≤ most_levels
  each_within n unexpanded.none h e = omega arith
  each_within n (b ∥ bs) h e =
      let (x, y) = both-empty (level_faults n b) (level_each n bs) e in
      omega (arith, lines_within n b h x, each_within n bs h y)

pub levels_exactly : (n : ℕ) (x : Commands) → n ≤ most_levels → (level_faults n x ≡ []) ↔ (n + depth_all x ≤ most_levels)
levels_exactly n x h = (lines_within n x h, lines_fit n x)

-- ---- activities, delays and parallels

sizes_grouped : {A : Type 0} → Grouped {A = A} size_walk
sizes_grouped =
    record {
      left = λ m. ap (λ (n : ℕ). record { is = n; places = m.places }) (max-left m.is);
      right = λ m. ap₂ (λ (n : ℕ) (l : List ℕ). record { is = n; places = l }) (max-right m.is) (append-none m.places);
      either = λ a b c. ap₂ (λ (n : ℕ) (l : List ℕ). record { is = n; places = l }) (max-either a.is b.is c.is) (append_assoc a.places b.places c.places);
    }

module _ {A : Type 0} (f : Account A) where
  mutual
    unfolding activities base walk

    line-activities : (c : Command) → max 1 (activities (base c)) ≡ max 1 (walk f size_walk c).is
    line-activities (skip p) = refl
    line-activities (delay p q n) = refl
    line-activities (change p c t) = refl
    line-activities (assign v e) = refl
    line-activities (choice p e a b) = ap (max 1) (ap₂ max (all-activities a) (all-activities b) ∙ one_of_both (walk_all f size_walk a).is (walk_all f size_walk b).is)
    line-activities (while p e b) = omega (arith, all-activities b)
    line-activities (loop p b) = omega (arith, all-activities b)
    line-activities (exit p) = refl
    line-activities (break p) = refl
    line-activities (switch p ts) = omega (arith, tests-activities ts)
    line-activities (parallel p bs) = omega (arith, each-activities bs)
    line-activities (call v ts) = refl
    line-activities (passing p k) = omega (arith, idle-sum p k)

    all-activities : (x : Commands) → activities_all (base_all x) ≡ max 1 (walk_all f size_walk x).is
    all-activities end = refl
    all-activities (l ⨾ ls) = omega (arith, line-activities l, all-activities ls)

    tests-activities : (ts : Tests) → activities_cases (base_tests ts) ≡ (walk_tests f size_walk ts).is
    tests-activities (default d) = all-activities d
    tests-activities (case p e b ts) = ap₂ max (all-activities b) (tests-activities ts)

    each-activities : (bs : Strands) → activities_sum (base_each bs) ≡ (walk_each f size_walk bs).is
    each-activities unexpanded.none = refl
    each-activities (b ∥ bs) = ap₂ ◌+◌ (all-activities b) (each-activities bs)

  idle-sizes : (p k : ℕ) → gather item_size (items_each (idle p k)) ≡ []
  unfolding gather items idle
  idle-sizes p zero = refl
  idle-sizes p (suc k) = idle-sizes p k

  mutual
    unfolding gather items base walk

    line-sizes : (c : Command) → gather item_size (items (base c)) ≡ (walk f size_walk c).places
    line-sizes (skip p) = refl
    line-sizes (delay p q n) = append-none (walk f size_walk (delay p q n)).places
    line-sizes (change p c t) = refl
    line-sizes (assign v e) = refl
    line-sizes (choice p e a b) = gather_append item_size (items_all (base_all a)) (items_all (base_all b)) ∙ ap₂ ◌++◌ (all-sizes a) (all-sizes b)
    line-sizes (while p e b) = all-sizes b
    line-sizes (loop p b) = all-sizes b
    line-sizes (exit p) = refl
    line-sizes (break p) = refl
    line-sizes (switch p ts) = tests-sizes ts
    line-sizes (parallel p bs) = ap₂ (λ (n : ℕ) (l : List ℕ). when (ltb most_activities n) p ++ l) (each-activities bs) (each-sizes bs)
    line-sizes (call v ts) = refl
    line-sizes (passing p k) = ap₂ (λ (n : ℕ) (l : List ℕ). when (ltb most_activities n) p ++ l) (idle-sum p k) (idle-sizes p k) ∙ append-none (when (ltb most_activities k) p)

    all-sizes : (x : Commands) → gather item_size (items_all (base_all x)) ≡ (walk_all f size_walk x).places
    all-sizes end = refl
    all-sizes (l ⨾ ls) = gather_append item_size (items (base l)) (items_all (base_all ls)) ∙ ap₂ ◌++◌ (line-sizes l) (all-sizes ls)

    tests-sizes : (ts : Tests) → gather item_size (items_cases (base_tests ts)) ≡ (walk_tests f size_walk ts).places
    tests-sizes (default d) = all-sizes d
    tests-sizes (case p e b ts) = gather_append item_size (items_all (base_all b)) (items_cases (base_tests ts)) ∙ ap₂ ◌++◌ (all-sizes b) (tests-sizes ts)

    each-sizes : (bs : Strands) → gather item_size (items_each (base_each bs)) ≡ (walk_each f size_walk bs).places
    each-sizes unexpanded.none = refl
    each-sizes (b ∥ bs) = gather_append item_size (items_all (base_all b)) (items_each (base_each bs)) ∙ ap₂ ◌++◌ (all-sizes b) (each-sizes bs)

  module _ (ps : List Procedure) (v : Name) (ts : List Term) where
    walked : called_by f size_walk ps v.place v.bytes (map (known f) ts) ≡ walk_all f size_walk (called ps v.place v ts)
    walked = called-walked f size_walk sizes_grouped ps v.place v ts refl

    pub call-activities : activities_all (base_all (called ps v.place v ts)) ≡ max 1 (called_by f size_walk ps v.place v.bytes (map (known f) ts)).is
    call-activities = all-activities (called ps v.place v ts) ∙ ap (λ (m : Told ℕ). max 1 m.is) (sym walked)

    pub call-sizes : gather item_size (items_all (base_all (called ps v.place v ts))) ≡ (called_by f size_walk ps v.place v.bytes (map (known f) ts)).places
    call-sizes = all-sizes (called ps v.place v ts) ∙ ap (λ (m : Told ℕ). m.places) (sym walked)

-- ---- jumps

jumps_grouped : {A : Type 0} → Grouped {A = A} jump_walk
jumps_grouped =
    record {
      left = λ m. refl;
      right = λ m. fun_ext (λ l. fun_ext (λ b. append-none (m l b)));
      either = λ x y z. fun_ext (λ l. fun_ext (λ b. append_assoc (x l b) (y l b) (z l b)));
    }

module _ {A : Type 0} (f : Account A) where
  idle-jumps : (p k : ℕ) (l b : Bool) → jump_each (idle p k) l b ≡ []
  unfolding jump_in idle
  idle-jumps p zero l b = refl
  idle-jumps p (suc k) l b = idle-jumps p k l b

  mutual
    unfolding jump_in base walk

    line-jumps : (c : Command) (l b : Bool) → jump_in (base c) l b ≡ walk f jump_walk c l b
    line-jumps (skip p) l b = refl
    line-jumps (delay p q n) l b = refl
    line-jumps (change p c t) l b = refl
    line-jumps (assign v e) l b = refl
    line-jumps (choice p e x y) l b = ap₂ ◌++◌ (all-jumps x l b) (all-jumps y l b)
    line-jumps (while p e x) l b = all-jumps x true b
    line-jumps (loop p x) l b = all-jumps x true b
    line-jumps (exit p) l b = refl
    line-jumps (break p) l b = refl
    line-jumps (switch p ts) l b = tests-jumps ts l true
    line-jumps (parallel p bs) l b = each-jumps bs l true
    line-jumps (call v ts) l b = refl
    line-jumps (passing p k) l b = idle-jumps p k l true

    all-jumps : (x : Commands) (l b : Bool) → jump_all (base_all x) l b ≡ walk_all f jump_walk x l b
    all-jumps end l b = refl
    all-jumps (c ⨾ cs) l b = ap₂ ◌++◌ (line-jumps c l b) (all-jumps cs l b)

    tests-jumps : (ts : Tests) (l b : Bool) → jump_cases (base_tests ts) l b ≡ walk_tests f jump_walk ts l b
    tests-jumps (default d) l b = all-jumps d l b
    tests-jumps (case p e x ts) l b = ap₂ ◌++◌ (all-jumps x l b) (tests-jumps ts l b)

    each-jumps : (bs : Strands) (l b : Bool) → jump_each (base_each bs) l b ≡ walk_each f jump_walk bs l b
    each-jumps unexpanded.none l b = refl
    each-jumps (x ∥ bs) l b = ap₂ ◌++◌ (all-jumps x l b) (each-jumps bs l b)

  pub call-jumps : (ps : List Procedure) (v : Name) (ts : List Term) (l b : Bool) → jump_all (base_all (called ps v.place v ts)) l b ≡ called_by f jump_walk ps v.place v.bytes (map (known f) ts) l b
  call-jumps ps v ts l b = all-jumps (called ps v.place v ts) l b ∙ ap (λ (m : Bool → Bool → List ℕ). m l b) (sym (called-walked f jump_walk jumps_grouped ps v.place v ts refl))

-- ---- where a level too many opens

deep_grouped : {A : Type 0} → Grouped {A = A} deep_walk
deep_grouped =
    record {
      left = λ m. refl;
      right = λ m. fun_ext (λ n. append-none (m n));
      either = λ x y z. fun_ext (λ n. append_assoc (x n) (y n) (z n));
    }

module _ {A : Type 0} (f : Account A) where
  mutual
    unfolding level_fault walk

    line-deep : (c : Command) (n : ℕ) → level_fault n c ≡ walk f deep_walk c n
    line-deep (skip p) n = refl
    line-deep (delay p q d) n = refl
    line-deep (change p c t) n = refl
    line-deep (assign v e) n = refl
    line-deep (choice p e a b) n = ap₂ (λ (x y : List ℕ). too_deep (suc n + levels_in e) p ++ (x ++ y)) (all-deep a (suc n)) (all-deep b (suc n))
    line-deep (while p e b) n = ap (λ (x : List ℕ). too_deep (suc n + levels_in e) p ++ x) (all-deep b (suc n))
    line-deep (loop p b) n = ap (λ (x : List ℕ). too_deep (suc n) p ++ x) (all-deep b (suc n))
    line-deep (exit p) n = refl
    line-deep (break p) n = refl
    line-deep (switch p ts) n = ap (λ (x : List ℕ). too_deep (suc n) p ++ x) (tests-deep ts (suc n))
    line-deep (parallel p bs) n = ap (λ (x : List ℕ). too_deep (suc n) p ++ x) (each-deep bs (suc n))
    line-deep (call v ts) n = refl
    line-deep (passing p k) n = refl

    all-deep : (x : Commands) (n : ℕ) → level_faults n x ≡ walk_all f deep_walk x n
    all-deep end n = refl
    all-deep (l ⨾ ls) n = ap₂ ◌++◌ (line-deep l n) (all-deep ls n)

    tests-deep : (ts : Tests) (n : ℕ) → level_tests n ts ≡ walk_tests f deep_walk ts n
    tests-deep (default d) n = all-deep d n
    tests-deep (case p e b ts) n = ap₂ (λ (x y : List ℕ). too_deep (n + levels_in e) p ++ (x ++ y)) (all-deep b n) (tests-deep ts n)

    each-deep : (bs : Strands) (n : ℕ) → level_each n bs ≡ walk_each f deep_walk bs n
    each-deep unexpanded.none n = refl
    each-deep (b ∥ bs) n = ap₂ ◌++◌ (all-deep b n) (each-deep bs n)

  pub call-deep : (ps : List Procedure) (v : Name) (ts : List Term) (n : ℕ) → level_faults n (called ps v.place v ts) ≡ called_by f deep_walk ps v.place v.bytes (map (known f) ts) n
  call-deep ps v ts n = all-deep (called ps v.place v ts) n ∙ ap (λ (m : ℕ → List ℕ). m n) (sym (called-walked f deep_walk deep_grouped ps v.place v ts refl))

-- ---- where statements and parts stand

statements_grouped : {A : Type 0} → Grouped {A = A} statement_walk
statements_grouped = record { left = λ l. refl; right = λ l. append-none l; either = λ a b c. append_assoc a b c }

module _ {A : Type 0} (f : Account A) where
  idle-statements : (p k : ℕ) → gather statement_place (items_each (idle p k)) ≡ replicate k p
  unfolding gather items idle
  idle-statements p zero = refl
  idle-statements p (suc k) = ap (λ l. p ∷ l) (idle-statements p k)

  mutual
    unfolding gather items base walk

    line-stands : (c : Command) → gather statement_place (items (base c)) ≡ walk f statement_walk c
    line-stands (skip p) = refl
    line-stands (delay p q n) = refl
    line-stands (change p c t) = refl
    line-stands (assign v e) = refl
    line-stands (choice p e a b) = ap (λ l. p ∷ l) (gather_append statement_place (items_all (base_all a)) (items_all (base_all b)) ∙ ap₂ ◌++◌ (all_stand a) (all_stand b))
    line-stands (while p e b) = ap (λ l. p ∷ l) (all_stand b)
    line-stands (loop p b) = ap (λ l. p ∷ l) (all_stand b)
    line-stands (exit p) = refl
    line-stands (break p) = refl
    line-stands (switch p ts) = ap (λ l. p ∷ l) (tests_stand ts)
    line-stands (parallel p bs) = ap (λ l. p ∷ l) (each_stands bs)
    line-stands (call v ts) = refl
    line-stands (passing p k) = ap (λ l. p ∷ l) (idle-statements p k)

    all_stand : (x : Commands) → gather statement_place (items_all (base_all x)) ≡ walk_all f statement_walk x
    all_stand end = refl
    all_stand (l ⨾ ls) = gather_append statement_place (items (base l)) (items_all (base_all ls)) ∙ ap₂ ◌++◌ (line-stands l) (all_stand ls)

    tests_stand : (ts : Tests) → gather statement_place (items_cases (base_tests ts)) ≡ walk_tests f statement_walk ts
    tests_stand (default d) = all_stand d
    tests_stand (case p e b ts) = gather_append statement_place (items_all (base_all b)) (items_cases (base_tests ts)) ∙ ap₂ ◌++◌ (all_stand b) (tests_stand ts)

    each_stands : (bs : Strands) → gather statement_place (items_each (base_each bs)) ≡ walk_each f statement_walk bs
    each_stands unexpanded.none = refl
    each_stands (b ∥ bs) = gather_append statement_place (items_all (base_all b)) (items_each (base_each bs)) ∙ ap₂ ◌++◌ (all_stand b) (each_stands bs)

  pub call-statements : (ps : List Procedure) (v : Name) (ts : List Term) → gather statement_place (items_all (base_all (called ps v.place v ts))) ≡ called_by f statement_walk ps v.place v.bytes (map (known f) ts)
  call-statements ps v ts = all_stand (called ps v.place v ts) ∙ sym (called-walked f statement_walk statements_grouped ps v.place v ts refl)

abbrev place_only : Expr Name → List ℕ
place_only e = place_of e ∷ []

gathered : (l : List (Expr Name)) → map place_of l ≡ gather place_only l
unfolding gather
gathered [] = refl
gathered (e ∷ l) = ap (λ r. place_of e ∷ r) (gathered l)

part-places : (e : Expr Name) → (told part_account e).places ≡ gather place_only (within e)
unfolding told gather within
part-places (tree.literal p n) = refl
part-places (tree.truth p b) = refl
part-places (tree.variable v) = refl
part-places (tree.bit v j) = refl
part-places (tree.not p e) = ap (λ l. p ∷ l) (part-places e)
part-places (tree.int p e) = ap (λ l. p ∷ l) (part-places e)
part-places (tree.arithmetic o p a b) = around place_only a b (tree.arithmetic o p a b) (told part_account a).places (told part_account b).places (part-places a) (part-places b)
part-places (tree.comparison o p a b) = around place_only a b (tree.comparison o p a b) (told part_account a).places (told part_account b).places (part-places a) (part-places b)
part-places (tree.logic o p a b) = around place_only a b (tree.logic o p a b) (told part_account a).places (told part_account b).places (part-places a) (part-places b)

pub call-part-places : (ps : List Procedure) (v : Name) (ts : List Term)
    → map place_of (parts_of (items_all (base_all (called ps v.place v ts)))) ≡ called_by part_account (marking part_marks) ps v.place v.bytes (map (known part_account) ts)
call-part-places ps v ts = gathered (parts_of (items_all (base_all (called ps v.place v ts)))) ∙ call-parts part_account place_only part-places ps v ts
