-- Whether an outermost call has too many statements or parts is told by the count up to the limit, made without its expansion.
-- Assumes nothing.
use mathlib.Core.Path.{◌≡◌, refl, sym, ap, ap₂, ◌∙◌}
use mathlib.Core.Logic.{◌↔◌}
use mathlib.Core.List.{List, [], ◌∷◌, ◌++◌, map}
use Prim.Native.Nat.{ℕ, zero, suc, ◌+◌, ◌≤◌, min}
use native.Mathlib.Omega.{arith}
use lib.ListN.{length, length-append, length-drop, drop}
use Rattle.meaning.specs.Tree.{Name, Expr}
use Rattle.meaning.specs.Items.{Item, items, items_all, items_cases, items_each, within, own, parts_of, place_of}
use Rattle.meaning.specs.Names.{gather}
use Rattle.meaning.specs.Sizes.{most_statements, most_parts, statement_place, count_faults}
use Rattle.meaning.specs.Unexpanded.{Term, Command, skip, delay, change, assign, choice, while, loop, exit, break, switch, parallel, call, passing, Commands, end, ◌⨾◌, Tests, default, case, Strands, ◌∥◌, Procedure}
use Rattle.meaning.specs.Unexpanded as unexpanded
use Rattle.meaning.specs.Base.{base_term, base, base_all, base_tests, base_each, idle}
use Rattle.meaning.specs.Expansion.{called}
use Rattle.meaning.proofs.Lists.{gather_append, both-empty}
use Rattle.meaning.proofs.Summaries.{Summary, summary, parts_in, summary_by, summary_right}
use Rattle.meaning.proofs.Cut.{weight, weight_all, weight_tests, weight_each, called_up_to, called_up_to_lem}

-- ---- statements

abbrev statements : List Item → ℕ
statements is = length (gather statement_place is)

statements-both : (a b : List Item) → statements (a ++ b) ≡ statements a + statements b
statements-both a b = ap length (gather_append statement_place a b) ∙ length-append (gather statement_place a) (gather statement_place b)

idle-statements : (p k : ℕ) → statements (items_each (idle p k)) ≡ k
unfolding gather items idle
idle-statements p zero = refl
idle-statements p (suc k) = ap suc (idle-statements p k)

abbrev nil : Term → ℕ
nil t = 0

mutual
  unfolding weight gather items base

  line-statements : (l : Command) → statements (items (base l)) ≡ weight 1 nil l
  line-statements (skip p) = refl
  line-statements (delay p q n) = refl
  line-statements (change p c t) = refl
  line-statements (assign v e) = refl
  line-statements (choice p e a b) = omega (arith, statements-both (items_all (base_all a)) (items_all (base_all b)), all-statements a, all-statements b)
  line-statements (while p e b) = omega (arith, all-statements b)
  line-statements (loop p b) = omega (arith, all-statements b)
  line-statements (exit p) = refl
  line-statements (break p) = refl
  line-statements (switch p ts) = omega (arith, tests-statements ts)
  line-statements (parallel p bs) = omega (arith, each-statements bs)
  line-statements (call v ts) = refl
  line-statements (passing p k) = omega (arith, idle-statements p k)

  all-statements : (ls : Commands) → statements (items_all (base_all ls)) ≡ weight_all 1 nil ls
  all-statements end = refl
  all-statements (l ⨾ ls) = omega (arith, statements-both (items (base l)) (items_all (base_all ls)), line-statements l, all-statements ls)

  tests-statements : (ts : Tests) → statements (items_cases (base_tests ts)) ≡ weight_tests 1 nil ts
  tests-statements (default d) = all-statements d
  tests-statements (case p e b ts) = omega (arith, statements-both (items_all (base_all b)) (items_cases (base_tests ts)), all-statements b, tests-statements ts)

  each-statements : (bs : Strands) → statements (items_each (base_each bs)) ≡ weight_each 1 nil bs
  each-statements unexpanded.none = refl
  each-statements (b ∥ bs) = omega (arith, statements-both (items_all (base_all b)) (items_each (base_each bs)), all-statements b, each-statements bs)

-- ---- parts

abbrev parts : List Item → ℕ
parts is = length (parts_of is)

parts-cons : (i : Item) (is : List Item) → parts (i ∷ is) ≡ length (own i) + parts is
unfolding parts_of
parts-cons i is = length-append (own i) (parts_of is)

parts-both : (a b : List Item) → parts (a ++ b) ≡ parts a + parts b
unfolding parts_of
parts-both [] b = omega arith
parts-both (i ∷ is) b = omega (arith, parts-cons i (is ++ b), parts-cons i is, parts-both is b)

idle-parts : (p k : ℕ) → parts (items_each (idle p k)) ≡ 0
unfolding parts_of items idle
idle-parts p zero = refl
idle-parts p (suc k) = idle-parts p k

mutual
  unfolding weight parts_of items base

  line-parts : (l : Command) → parts (items (base l)) ≡ weight 0 parts_in l
  line-parts (skip p) = refl
  line-parts (delay p q n) = refl
  line-parts (change p c t) = refl
  line-parts (assign v e) = omega (arith, length-append (within (base_term e)) [])
  line-parts (choice p e a b) = omega (arith, length-append (within (base_term e)) (parts_of (items_all (base_all a) ++ items_all (base_all b))), parts-both (items_all (base_all a)) (items_all (base_all b)), all-parts a, all-parts b)
  line-parts (while p e b) = omega (arith, length-append (within (base_term e)) (parts_of (items_all (base_all b))), all-parts b)
  line-parts (loop p b) = omega (arith, all-parts b)
  line-parts (exit p) = refl
  line-parts (break p) = refl
  line-parts (switch p ts) = omega (arith, tests-parts ts)
  line-parts (parallel p bs) = omega (arith, each-parts bs)
  line-parts (call v ts) = refl
  line-parts (passing p k) = omega (arith, idle-parts p k)

  all-parts : (ls : Commands) → parts (items_all (base_all ls)) ≡ weight_all 0 parts_in ls
  all-parts end = refl
  all-parts (l ⨾ ls) = omega (arith, parts-both (items (base l)) (items_all (base_all ls)), line-parts l, all-parts ls)

  tests-parts : (ts : Tests) → parts (items_cases (base_tests ts)) ≡ weight_tests 0 parts_in ts
  tests-parts (default d) = all-parts d
  tests-parts (case p e b ts) = omega (arith, length-append (within (base_term e)) (parts_of (items_all (base_all b) ++ items_cases (base_tests ts))), parts-both (items_all (base_all b)) (items_cases (base_tests ts)), all-parts b, tests-parts ts)

  each-parts : (bs : Strands) → parts (items_each (base_each bs)) ≡ weight_each 0 parts_in bs
  each-parts unexpanded.none = refl
  each-parts (b ∥ bs) = omega (arith, parts-both (items_all (base_all b)) (items_each (base_each bs)), all-parts b, each-parts bs)

-- ---- too many

none-past : {A : Type 0} (n : ℕ) (l : List A) → (drop n l ≡ []) ↔ (length l ≤ n)
none-past n l = (λ e. omega (arith, length-drop n l, ap length e), λ h. empty (drop n l) (omega (arith, length-drop n l)))
  where
    empty : {A : Type 0} (m : List A) → length m ≡ 0 → m ≡ []
    empty [] e = refl
    empty (x ∷ m) e = absurd (omega arith)

mapped : (l : List (Expr Name)) → length (map place_of l) ≡ length l
mapped [] = refl
mapped (e ∷ l) = ap suc (mapped l)

-- how many statements, and parts, a call comes to, up to one too many
abbrev pub statements_up_to : List Procedure → List ℕ → List Summary → ℕ
statements_up_to ps x ss = called_up_to (suc most_statements) 1 (λ ks t. 0) ps x ss 0

abbrev pub parts_up_to : List Procedure → List ℕ → List Summary → ℕ
parts_up_to ps x ss = called_up_to (suc most_parts) 0 (λ ks t. (summary_by ks t).parts) ps x ss 0

module _ (ps : List Procedure) (at : ℕ) (v : Name) (ts : List Term) where
  statements_up_to_lem : statements_up_to ps v.bytes (map summary ts) ≡ min (suc most_statements) (statements (items_all (base_all (called ps at v ts))))
  statements_up_to_lem =
      called_up_to_lem (suc most_statements) 1 nil (λ ks t. 0) (λ to bound t. refl) ps at v ts 0 (omega arith)
      ∙ ap (λ (n : ℕ). min (suc most_statements) (0 + n)) (sym (all-statements (called ps at v ts)))
      ∙ plus_none (statements (items_all (base_all (called ps at v ts))))
    where
      plus_none : (n : ℕ) → min (suc most_statements) (0 + n) ≡ min (suc most_statements) n
      plus_none n = omega arith

  parts_up_to_lem : parts_up_to ps v.bytes (map summary ts) ≡ min (suc most_parts) (parts (items_all (base_all (called ps at v ts))))
  parts_up_to_lem =
      called_up_to_lem (suc most_parts) 0 parts_in (λ ks t. (summary_by ks t).parts) (λ to bound t. ap (λ (s : Summary). s.parts) (summary_right to bound t)) ps at v ts 0 (omega arith)
      ∙ ap (λ (n : ℕ). min (suc most_parts) (0 + n)) (sym (all-parts (called ps at v ts)))
      ∙ plus_none (parts (items_all (base_all (called ps at v ts))))
    where
      plus_none : (n : ℕ) → min (suc most_parts) (0 + n) ≡ min (suc most_parts) n
      plus_none n = omega arith

  -- the cut changes no answer
  pub cut_right : (count_faults (base_all (called ps at v ts)) ≡ []) ↔ ((statements_up_to ps v.bytes (map summary ts) ≤ most_statements) × (parts_up_to ps v.bytes (map summary ts) ≤ most_parts))
  cut_right = (there, back)
    where
      whole : List Item
      whole = items_all (base_all (called ps at v ts))

      there : count_faults (base_all (called ps at v ts)) ≡ [] → (statements_up_to ps v.bytes (map summary ts) ≤ most_statements) × (parts_up_to ps v.bytes (map summary ts) ≤ most_parts)
      there e =
          let (a, b) = both-empty (drop most_statements (gather statement_place whole)) (drop most_parts (map place_of (parts_of whole))) e in
          let few = (none-past most_statements (gather statement_place whole)).0 a in
          let small = (none-past most_parts (map place_of (parts_of whole))).0 b in
          (omega (arith, statements_up_to_lem), omega (arith, parts_up_to_lem, mapped (parts_of whole)))

      back : (statements_up_to ps v.bytes (map summary ts) ≤ most_statements) × (parts_up_to ps v.bytes (map summary ts) ≤ most_parts) → count_faults (base_all (called ps at v ts)) ≡ []
      back (few, small) =
          ap₂ ◌++◌ ((none-past most_statements (gather statement_place whole)).1 (omega (arith, statements_up_to_lem)))
          ((none-past most_parts (map place_of (parts_of whole))).1 (omega (arith, parts_up_to_lem, mapped (parts_of whole))))
