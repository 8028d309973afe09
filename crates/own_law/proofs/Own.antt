-- The count of an expansion by itself is over exactly where it passes a size, and else it is exact.
-- Assumes nothing.
use mathlib.Core.Path.{◌≡◌, refl, sym, ap, ap₂, ◌∙◌}
use mathlib.Core.Logic.{◌↔◌}
use mathlib.Core.Bool.{Bool, true, false, cond, not as opposite}
use mathlib.Core.List.{List, [], ◌∷◌, ◌++◌, map}
use Prim.Native.Nat.{ℕ, zero, suc, ◌+◌, ◌≤◌}
use native.Mathlib.Omega.{arith}
use borrow.Author.Tests.{leb-true, le-leb}
use lib.Dec.{ltb, leb}
use lib.ListN.{length, length-append, length-drop, drop}
use Rattle.meaning.specs.Tree.{Name, Expr}
use Rattle.meaning.specs.Clock.{activities_sum}
use Rattle.meaning.specs.States.{most_activities}
use Rattle.meaning.specs.Items.{Item, items, items_all, items_cases, items_each, within, own, parts_of, place_of}
use Rattle.meaning.specs.Names.{gather, when}
use Rattle.meaning.specs.Kinds.{both}
use Rattle.meaning.specs.Sizes.{most_statements, most_parts, most_delay, statement_place, item_size, statements_over, parts_over, count_faults, body_sizes}
use Rattle.meaning.specs.Unexpanded.{Term, literal, truth, variable, bit, not, int, arithmetic, comparison, logic, parens, instead, no_name, Command, skip, delay, change, assign, choice, while, loop, exit, break, switch, parallel, call, passing, Commands, end, ◌⨾◌, Tests, default, case, Strands, ◌∥◌}
use Rattle.meaning.specs.Unexpanded as unexpanded
use Rattle.meaning.specs.Levels.{most_levels, levels_in, level_faults}
use Rattle.meaning.specs.Base.{base_term, base, base_all, base_tests, base_each, idle}
use Rattle.meaning.specs.Expansion.{sizes_passed}
use Rattle.meaning.proofs.Lists.{gather_append, not_empty}
use Rattle.meaning.proofs.Depth.{depth, depth_all, depth_tests, depth_each}
use Rattle.meaning.proofs.Wide.{idle-sum}
use Rattle.expand_law.proofs.Sizes.{levels_exactly}
use Rattle.own_law.specs.Own.{Own, nothing, past, own_term, own_command, own_all, own_tests, own_each}
use Rattle.own_law.proofs.Borne.{is_none, none_both, none-behind, fits, bears, made, Sound, Adds, statement, part, large, stays, behind, alike, as_large, level, often}

-- ---- how many statements and parts items have

abbrev pub statements_in : List Item → ℕ
statements_in is = length (gather statement_place is)

abbrev pub parts_in : List Item → ℕ
parts_in is = length (parts_of is)

abbrev pub too_large : List Item → List ℕ
too_large is = gather item_size is

pub statements-both : (a b : List Item) → statements_in (a ++ b) ≡ statements_in a + statements_in b
statements-both a b = ap length (gather_append statement_place a b) ∙ length-append (gather statement_place a) (gather statement_place b)

parts-cons : (i : Item) (is : List Item) → parts_in (i ∷ is) ≡ length (own i) + parts_in is
unfolding parts_of
parts-cons i is = length-append (own i) (parts_of is)

parts-both : (a b : List Item) → parts_in (a ++ b) ≡ parts_in a + parts_in b
unfolding parts_of
parts-both [] b = omega arith
parts-both (i ∷ is) b = omega (arith, parts-cons i (is ++ b), parts-cons i is, parts-both is b)

large-both : (a b : List Item) → too_large a ++ too_large b ≡ too_large (a ++ b)
large-both a b = sym (gather_append item_size a b)

idle-statements : (p k : ℕ) → statements_in (items_each (idle p k)) ≡ k
unfolding gather items idle
idle-statements p zero = refl
idle-statements p (suc k) = ap suc (idle-statements p k)

idle-parts : (p k : ℕ) → parts_in (items_each (idle p k)) ≡ 0
unfolding parts_of items idle
idle-parts p zero = refl
idle-parts p (suc k) = idle-parts p k

idle-large : (p k : ℕ) → too_large (items_each (idle p k)) ≡ []
unfolding gather items idle
idle-large p zero = refl
idle-large p (suc k) = idle-large p k

-- ---- the walk adds what the items have

pub term_adds : (v : Bool) (e : Term) → Adds v (own_term v e) 0 (length (within (base_term e))) (levels_in e) []
unfolding own_term within base_term levels_in
term_adds v (literal p n) = part v
term_adds v (truth p b) = part v
term_adds v (variable n) = part v
term_adds v (bit n j) = part v
term_adds v (not p e) = alike (behind (part v) (level (term_adds v e))) refl (omega arith) (omega arith) refl
term_adds v (int p e) = alike (behind (part v) (level (term_adds v e))) refl (omega arith) (omega arith) refl
term_adds v (arithmetic f p a b) = alike (behind (behind (term_adds v a) (part v)) (term_adds v b)) refl (omega (arith, length-append (within (base_term a)) (base_term (arithmetic f p a b) ∷ within (base_term b)))) (omega arith) refl
term_adds v (comparison f p a b) = alike (behind (behind (term_adds v a) (part v)) (term_adds v b)) refl (omega (arith, length-append (within (base_term a)) (base_term (comparison f p a b) ∷ within (base_term b)))) (omega arith) refl
term_adds v (logic f p a b) = alike (behind (behind (term_adds v a) (part v)) (term_adds v b)) refl (omega (arith, length-append (within (base_term a)) (base_term (logic f p a b) ∷ within (base_term b)))) (omega arith) refl
term_adds v (parens e) = level (term_adds v e)
term_adds v (instead e) = level (term_adds v e)
term_adds v (no_name p) = part v

swapped : (l m : List ℕ) → is_none (l ++ m) ≡ is_none (m ++ l)
swapped l m = none_both l m ∙ by l m ∙ sym (none_both m l)
  where
    by : (a b : List ℕ) → both (is_none a) (is_none b) ≡ both (is_none b) (is_none a)
    by [] [] = refl
    by [] (q ∷ b) = refl
    by (p ∷ a) [] = refl
    by (p ∷ a) (q ∷ b) = refl

mutual
  unfolding own_command gather parts_of items base depth

  pub command_adds : (v : Bool) (c : Command) → Adds v (own_command v c) (statements_in (items (base c))) (parts_in (items (base c))) (depth c) (too_large (items (base c)))
  command_adds v (skip p) = statement v
  command_adds v (delay p q n) = alike (behind (statement v) (large v (ltb most_delay n) q)) refl refl refl (sym (none-behind (when (ltb most_delay n) q)))
  command_adds v (change p c t) = alike (behind (statement v) (level (stays v))) refl refl refl refl
  command_adds v (assign n e) = alike (behind (statement v) (term_adds v e)) refl (omega (arith, length-append (within (base_term e)) [])) (omega arith) refl
  command_adds v (choice p e a b) =
      alike (behind (statement v) (level (behind (behind (term_adds v e) (all-adds v a)) (all-adds v b))))
      (omega (arith, statements-both (items_all (base_all a)) (items_all (base_all b))))
      (omega (arith, length-append (within (base_term e)) (parts_of (items_all (base_all a) ++ items_all (base_all b))), parts-both (items_all (base_all a)) (items_all (base_all b))))
      (omega arith) (large-both (items_all (base_all a)) (items_all (base_all b)))
  command_adds v (while p e b) =
      alike (behind (statement v) (level (behind (term_adds v e) (all-adds v b))))
      (omega arith) (omega (arith, length-append (within (base_term e)) (parts_of (items_all (base_all b))))) (omega arith) refl
  command_adds v (loop p b) = alike (behind (statement v) (level (all-adds v b))) (omega arith) (omega arith) (omega arith) refl
  command_adds v (exit p) = statement v
  command_adds v (break p) = statement v
  command_adds v (switch p ts) = alike (behind (statement v) (level (tests-add v ts))) (omega arith) (omega arith) (omega arith) refl
  command_adds v (parallel p bs) =
      as_large (alike (behind (behind (statement v) (level (each-adds v bs))) (large v (ltb most_activities (activities_sum (base_each bs))) p)) (omega arith) (omega arith) (omega arith) refl)
      (swapped (too_large (items_each (base_each bs))) (when (ltb most_activities (activities_sum (base_each bs))) p))
  command_adds v (call n ts) = statement v
  command_adds v (passing p k) =
      alike (behind (behind (statement v) (often v k)) (large v (ltb most_activities k) p)) (omega (arith, idle-statements p k)) (omega (arith, idle-parts p k)) refl
      (sym (ap₂ (λ (n : ℕ) (l : List ℕ). when (ltb most_activities n) p ++ l) (idle-sum p k) (idle-large p k) ∙ none-behind (when (ltb most_activities k) p)))

  pub all-adds : (v : Bool) (x : Commands) → Adds v (own_all v x) (statements_in (items_all (base_all x))) (parts_in (items_all (base_all x))) (depth_all x) (too_large (items_all (base_all x)))
  all-adds v end = stays v
  all-adds v (l ⨾ ls) =
      alike (behind (command_adds v l) (all-adds v ls)) (sym (statements-both (items (base l)) (items_all (base_all ls)))) (sym (parts-both (items (base l)) (items_all (base_all ls)))) refl
      (large-both (items (base l)) (items_all (base_all ls)))

  pub tests-add : (v : Bool) (ts : Tests) → Adds v (own_tests v ts) (statements_in (items_cases (base_tests ts))) (parts_in (items_cases (base_tests ts))) (depth_tests ts) (too_large (items_cases (base_tests ts)))
  tests-add v (default d) = all-adds v d
  tests-add v (case p e b ts) =
      alike (behind (behind (term_adds v e) (all-adds v b)) (tests-add v ts)) (omega (arith, statements-both (items_all (base_all b)) (items_cases (base_tests ts))))
      (omega (arith, length-append (within (base_term e)) (parts_of (items_all (base_all b) ++ items_cases (base_tests ts))), parts-both (items_all (base_all b)) (items_cases (base_tests ts))))
      (omega arith) (large-both (items_all (base_all b)) (items_cases (base_tests ts)))

  pub each-adds : (v : Bool) (bs : Strands) → Adds v (own_each v bs) (statements_in (items_each (base_each bs))) (parts_in (items_each (base_each bs))) (depth_each bs) (too_large (items_each (base_each bs)))
  each-adds v unexpanded.none = stays v
  each-adds v (b ∥ bs) =
      alike (behind (all-adds v b) (each-adds v bs)) (sym (statements-both (items_all (base_all b)) (items_each (base_each bs)))) (sym (parts-both (items_all (base_all b)) (items_each (base_each bs)))) refl
      (large-both (items_all (base_all b)) (items_each (base_each bs)))

-- ---- over stays over; else the count is exact

module _ {v : Bool} {f : Own → Own} {s p d : ℕ} {l : List ℕ} (adds : Adds v f s p d l) where
  made_stays : (a b c : ℕ) (g : Bool) → g ≡ true → f (made a b c g) ≡ made a b c g
  unfolding bears
  made_stays a b c true e = adds.to (made a b c true) refl
  made_stays a b c false e = absurd (let z : ◌≡◌ {A = ℕ} 0 1 = cc in omega arith)

  pub over_stays : (o : Own) → o.over ≡ true → f o ≡ o
  over_stays o e = made_stays o.statements o.parts o.levels o.over e

  pub exact : (o : Own) → Sound v o → (f o).over ≡ false → f o ≡ made (o.statements + s) (o.parts + p) o.levels false
  unfolding bears
  exact o h e = adds.to o h ∙ by o.over (fits v o s p d l) (sym (ap (λ (r : Own). r.over) (adds.to o h)) ∙ e)
    where
      by : (g k : Bool) → (cond g (made o.statements o.parts o.levels g) (cond k (made (o.statements + s) (o.parts + p) o.levels false) past)).over ≡ false
          → cond g (made o.statements o.parts o.levels g) (cond k (made (o.statements + s) (o.parts + p) o.levels false) past) ≡ made (o.statements + s) (o.parts + p) o.levels false
      by true k q = absurd (let z : ◌≡◌ {A = ℕ} 0 1 = cc in omega arith)
      by false true q = refl
      by false false q = absurd (let z : ◌≡◌ {A = ℕ} 0 1 = cc in omega arith)

-- P14: where statements and parts alone are asked for, whatever adds as many does
pub counts-alike : {f g : Own → Own} {s p d e : ℕ} {l m : List ℕ} → Adds false f s p d l → Adds false g s p e m → (o : Own) → Sound false o → f o ≡ g o
unfolding bears
counts-alike a b o h = a.to o h ∙ sym (b.to o h)

pub nothing-sound : (v : Bool) → Sound v nothing
unfolding bears
nothing-sound true = refl
nothing-sound false = refl

-- ---- exactly where a size is passed

none-past : {A : Type 0} (n : ℕ) (l : List A) → (drop n l ≡ []) ↔ (length l ≤ n)
none-past n l = (λ e. omega (arith, length-drop n l, ap length e), λ h. empty (drop n l) (omega (arith, length-drop n l)))
  where
    empty : {A : Type 0} (m : List A) → length m ≡ 0 → m ≡ []
    empty [] e = refl
    empty (x ∷ m) e = absurd (omega arith)

none_exactly : (l : List ℕ) (n most : ℕ) → (l ≡ []) ↔ (n ≤ most) → is_none l ≡ leb n most
none_exactly [] n most h = sym (le-leb n most (h.0 refl))
none_exactly (p ∷ l) n most h = by (leb n most) refl
  where
    by : (b : Bool) → leb n most ≡ b → false ≡ b
    by true e = absurd (not_empty (h.1 (leb-true n most e)))
    by false e = refl

placed : (l : List (Expr Name)) → length (map place_of l) ≡ length l
placed [] = refl
placed (e ∷ l) = ap suc (placed l)

module _ (x : Commands) where
  from_none : (n : ℕ) → n ≡ 0 + n
  from_none n = omega arith

  few-statements : is_none (statements_over (base_all x)) ≡ leb (0 + statements_in (items_all (base_all x))) most_statements
  few-statements = none_exactly (statements_over (base_all x)) (statements_in (items_all (base_all x))) most_statements (none-past most_statements (gather statement_place (items_all (base_all x)))) ∙ ap (λ (n : ℕ). leb n most_statements) (from_none (statements_in (items_all (base_all x))))

  few-parts : is_none (parts_over (base_all x)) ≡ leb (0 + parts_in (items_all (base_all x))) most_parts
  few-parts = none_exactly (parts_over (base_all x)) (length (map place_of (parts_of (items_all (base_all x))))) most_parts (none-past most_parts (map place_of (parts_of (items_all (base_all x))))) ∙ ap (λ (n : ℕ). leb n most_parts) (placed (parts_of (items_all (base_all x))) ∙ from_none (parts_in (items_all (base_all x))))

  few-levels : is_none (level_faults 0 x) ≡ leb (0 + depth_all x) most_levels
  few-levels = none_exactly (level_faults 0 x) (0 + depth_all x) most_levels (levels_exactly 0 x (omega arith))

  -- whether the count is over
  over_unless : (v : Bool) → (own_all v x nothing).over ≡ opposite (fits v nothing (statements_in (items_all (base_all x))) (parts_in (items_all (base_all x))) (depth_all x) (too_large (items_all (base_all x))))
  unfolding bears
  over_unless v = ap (λ (o : Own). o.over) ((all-adds v x).to nothing (nothing-sound v)) ∙ by (fits v nothing (statements_in (items_all (base_all x))) (parts_in (items_all (base_all x))) (depth_all x) (too_large (items_all (base_all x))))
    where
      by : (k : Bool) → (cond k (made (0 + statements_in (items_all (base_all x))) (0 + parts_in (items_all (base_all x))) 0 false) past).over ≡ opposite k
      by true = refl
      by false = refl

  reorder : (a b c d : Bool) → both (both a b) (both d c) ≡ both (both a (both b c)) d
  reorder true true true true = refl
  reorder true true true false = refl
  reorder true true false true = refl
  reorder true true false false = refl
  reorder true false c d = refl
  reorder false b c d = refl

  all_fit : fits true nothing (statements_in (items_all (base_all x))) (parts_in (items_all (base_all x))) (depth_all x) (too_large (items_all (base_all x))) ≡ is_none (sizes_passed x)
  all_fit =
      ap₂ both (ap₂ both (sym few-statements) (sym few-parts)) (ap (λ (k : Bool). both k (is_none (too_large (items_all (base_all x))))) (sym few-levels))
      ∙ reorder (is_none (statements_over (base_all x))) (is_none (parts_over (base_all x))) (is_none (too_large (items_all (base_all x)))) (is_none (level_faults 0 x))
      ∙ ap (λ (k : Bool). both k (is_none (level_faults 0 x))) (ap (both (is_none (statements_over (base_all x)))) (sym (none_both (parts_over (base_all x)) (too_large (items_all (base_all x))))) ∙ sym (none_both (statements_over (base_all x)) (parts_over (base_all x) ++ too_large (items_all (base_all x)))))
      ∙ sym (none_both (body_sizes (base_all x)) (level_faults 0 x))

  counts_fit : fits false nothing (statements_in (items_all (base_all x))) (parts_in (items_all (base_all x))) (depth_all x) (too_large (items_all (base_all x))) ≡ is_none (count_faults (base_all x))
  counts_fit = ap (λ (k : Bool). both k true) (ap₂ both (sym few-statements) (sym few-parts)) ∙ by (both (is_none (statements_over (base_all x))) (is_none (parts_over (base_all x)))) ∙ sym (none_both (statements_over (base_all x)) (parts_over (base_all x)))
    where
      by : (k : Bool) → both k true ≡ k
      by true = refl
      by false = refl

  -- P13
  pub own_exactly : (own_all true x nothing).over ≡ opposite (is_none (sizes_passed x))
  own_exactly = over_unless true ∙ ap opposite all_fit

  -- P14
  pub counts_exactly : (own_all false x nothing).over ≡ opposite (is_none (count_faults (base_all x)))
  counts_exactly = over_unless false ∙ ap opposite counts_fit
