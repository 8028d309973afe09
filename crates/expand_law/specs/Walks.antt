-- A walk over statements tells something of them from the inside out: how many they are, their levels, their activities, whether one has a fault. Of an expansion it is told by walking the bodies with what is known of the actuals; no tree is made.
-- Assumes nothing.
use Rattle.std.specs.Prelude.{ℕ, Bool, true, cond, List, [], ◌∷◌, map, ◌≡◌}
use Rattle.std.proofs.Math.Option.{Option, none, some}
use Rattle.meaning.specs.Tree.{Name, Change, Target, whole, part}
use Rattle.meaning.specs.Declared.{same_bytes}
use Rattle.meaning.specs.Unexpanded.{Command, skip, delay, change, assign, choice, while, loop, exit, break, switch, parallel, call, passing, Commands, end, ◌⨾◌, Tests, default, case, Strands, ◌∥◌, Procedure}
use Rattle.meaning.specs.Unexpanded as unexpanded
use Rattle.meaning.specs.Expansion.{Bound, actual_of, bind, moved, name_of_form, target_of_form, name_form, bit_form, allows_all}
use Rattle.meaning.proofs.Actuals.{as_many}
use Rattle.expand_law.specs.Accounts.{Account, Known, known, known_by}

-- what each statement makes of its place and its own particulars, of what is known of its expression and of what its lists come to
pub record Walk (A M : Type 0) : Type 0 where
  pub at_end : M
  pub and_then : M → M → M
  pub of_skip : ℕ → M
  pub of_delay : ℕ → ℕ → ℕ → M
  pub of_change : ℕ → Change → Target Name → M
  pub of_assign : Name → Known A → M
  pub of_choice : ℕ → Known A → M → M → M
  pub of_while : ℕ → Known A → M → M
  pub of_loop : ℕ → M → M
  pub of_exit : ℕ → M
  pub of_break : ℕ → M
  pub of_switch : ℕ → M → M
  pub of_default : M → M
  pub of_case : ℕ → Known A → M → M → M
  pub of_parallel : ℕ → M → M
  pub of_none : M
  pub of_branch : M → M → M
  pub of_call : ℕ → M
  pub of_passing : ℕ → ℕ → M

-- one list after another, however they are grouped
pub record Grouped {A M : Type 0} (w : Walk A M) : Type 0 where
  pub left : (m : M) → w.and_then w.at_end m ≡ m
  pub right : (m : M) → w.and_then m w.at_end ≡ m
  pub either : (l m n : M) → w.and_then (w.and_then l m) n ≡ w.and_then l (w.and_then m n)

module _ {A M : Type 0} (f : Account A) (w : Walk A M) where
  -- over statements as they stand
  unfoldable mutual
    pub walk : Command → M
    walk (skip p) = w.of_skip p
    walk (delay p q n) = w.of_delay p q n
    walk (change p c t) = w.of_change p c t
    walk (assign v e) = w.of_assign v (known f e)
    walk (choice p e a b) = w.of_choice p (known f e) (walk_all a) (walk_all b)
    walk (while p e b) = w.of_while p (known f e) (walk_all b)
    walk (loop p b) = w.of_loop p (walk_all b)
    walk (exit p) = w.of_exit p
    walk (break p) = w.of_break p
    walk (switch p ts) = w.of_switch p (walk_tests ts)
    walk (parallel p bs) = w.of_parallel p (walk_each bs)
    walk (call v ts) = w.of_call v.place
    walk (passing p k) = w.of_passing p k

    pub walk_all : Commands → M
    walk_all end = w.at_end
    walk_all (l ⨾ ls) = w.and_then (walk l) (walk_all ls)

    pub walk_tests : Tests → M
    walk_tests (default d) = w.of_default (walk_all d)
    walk_tests (case p e b ts) = w.of_case p (known f e) (walk_all b) (walk_tests ts)

    pub walk_each : Strands → M
    walk_each unexpanded.none = w.of_none
    walk_each (b ∥ bs) = w.of_branch (walk_all b) (walk_each bs)

  module _ (at : ℕ) where
    -- P5: a changed name and a changed target
    abbrev pub name_by : Name → Option (Known A) → Name
    name_by v none = moved (λ q. at) v
    name_by v (some k) = name_of_form (λ q. at) at k.form

    abbrev pub whole_by : Name → Option (Known A) → Target Name
    whole_by v none = whole (moved (λ q. at) v)
    whole_by v (some k) = target_of_form (λ q. at) at k.form

    module _ (calls : List ℕ → List (Known A) → M) (ks : List (Bound (Known A))) where
      abbrev pub target_by : Target Name → Target Name
      target_by (whole v) = whole_by v (actual_of ks v.bytes)
      target_by (part v j) = part (name_by v (actual_of ks v.bytes)) j

      -- P9: over a body whose formals and calls are replaced, with `at` for every place
      unfoldable mutual
        pub walk_by : Command → M
        walk_by (skip p) = w.of_skip at
        walk_by (delay p q n) = w.of_delay at at n
        walk_by (change p c t) = w.of_change at c (target_by t)
        walk_by (assign v e) = w.of_assign (name_by v (actual_of ks v.bytes)) (known_by f (λ q. at) ks e)
        walk_by (choice p e a b) = w.of_choice at (known_by f (λ q. at) ks e) (walk_all_by a) (walk_all_by b)
        walk_by (while p e b) = w.of_while at (known_by f (λ q. at) ks e) (walk_all_by b)
        walk_by (loop p b) = w.of_loop at (walk_all_by b)
        walk_by (exit p) = w.of_exit at
        walk_by (break p) = w.of_break at
        walk_by (switch p ts) = w.of_switch at (walk_tests_by ts)
        walk_by (parallel p bs) = w.of_parallel at (walk_each_by bs)
        walk_by (call v ts) = calls v.bytes (map (known_by f (λ q. at) ks) ts)
        walk_by (passing p k) = w.of_passing at k

        pub walk_all_by : Commands → M
        walk_all_by end = w.at_end
        walk_all_by (l ⨾ ls) = w.and_then (walk_by l) (walk_all_by ls)

        pub walk_tests_by : Tests → M
        walk_tests_by (default d) = w.of_default (walk_all_by d)
        walk_tests_by (case p e b ts) = w.of_case at (known_by f (λ q. at) ks e) (walk_all_by b) (walk_tests_by ts)

        pub walk_each_by : Strands → M
        walk_each_by unexpanded.none = w.of_none
        walk_each_by (b ∥ bs) = w.of_branch (walk_all_by b) (walk_each_by bs)

  -- P7: what the actuals allow
  abbrev pub is_name_by : Option (Known A) → Bool
  is_name_by none = true
  is_name_by (some k) = name_form k.form

  abbrev pub is_bit_by : Option (Known A) → Bool
  is_bit_by none = true
  is_bit_by (some k) = bit_form k.form

  abbrev pub allowed_known : List (Bound (Known A)) → Commands → Bool
  allowed_known ks b = allows_all (λ x. is_name_by (actual_of ks x)) (λ x. is_bit_by (actual_of ks x)) b

  -- P4, P6, P7: a call by its name, with what is known of its actuals
  unfoldable pub called_by : List Procedure → ℕ → List ℕ → List (Known A) → M
  called_by [] at x ks = w.of_call at
  called_by (p ∷ ps) at x ks =
      cond (same_bytes p.name.bytes x)
      (cond (as_many p.formals ks)
      (cond (allowed_known (bind p.formals ks) p.body) (walk_all_by at (called_by ps at) (bind p.formals ks) p.body) (w.of_call at))
      (w.of_call at))
      (called_by ps at x ks)
