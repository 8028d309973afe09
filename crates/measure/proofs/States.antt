-- What each statement does to the counts, step by step as its reader takes it.
-- Assumes nothing.
use mathlib.Core.Path.{◌≡◌, refl, sym, ap, ◌∙◌}
use mathlib.Core.List.{List}
use Prim.Native.Nat.{ℕ, ◌+◌, ◌≤◌, max}
use native.Mathlib.Omega.{arith}
use lib.Dec.{ltb}
use Rattle.meaning.specs.Tree.{Name, Change, Target}
use Rattle.meaning.specs.Clock.{activities, activities_sum}
use Rattle.meaning.specs.Sizes.{most_delay}
use Rattle.meaning.specs.States.{most_activities}
use Rattle.meaning.specs.Unexpanded.{Term, Command, skip, delay, change, assign, choice, while, loop, exit, break, switch, parallel, call, Commands, end, ◌⨾◌, Tests, default, case, Strands, ◌∥◌}
use Rattle.meaning.specs.Unexpanded as unexpanded
use Rattle.meaning.specs.Base.{base, base_each}
use Rattle.meaning.specs.Expansion.{alone, expand}
use Rattle.own_law.specs.Own.{Own, begun, closed, opened, if_large, own_term, own_command}
use Rattle.frames.specs.declared.Under.{Under}
use Rattle.tally.specs.Holds.{State, doing, with_acts, over_all, over_tests, over_branch, over_each}
use Rattle.tally.proofs.Ends.{joined-state}
use Rattle.measure.specs.Counted.{Known, one_of, all_of}

abbrev pub beginning : State → State
beginning x = doing (λ v. begun) x

abbrev pub inside : State → State
inside x = doing opened (beginning x)

abbrev pub outside : State → State
outside x = doing (λ v. closed) x

abbrev pub term : Term → State → State
term e x = doing (λ v. own_term v e) x

abbrev state : Own → Own → ℕ → State
state a b c = record { every = a; counts = b; acts = c }

acting : (a b : Own) (n k : ℕ) → n ≡ k → state a b n ≡ state a b k
acting a b n k e = ap (state a b) e

module _ (x : State) (some : 1 ≤ x.acts) where
  pub skip-state : (p : ℕ) → beginning x ≡ over_all (alone (skip p)) x
  unfolding own_command activities base
  skip-state p = acting _ _ _ _ (omega arith)

  pub exit-state : (p : ℕ) → beginning x ≡ over_all (alone (exit p)) x
  unfolding own_command activities base
  exit-state p = acting _ _ _ _ (omega arith)

  pub break-state : (p : ℕ) → beginning x ≡ over_all (alone (break p)) x
  unfolding own_command activities base
  break-state p = acting _ _ _ _ (omega arith)

  -- P7: a call that stays
  pub call-state : (v : Name) (ts : List Term) → beginning x ≡ over_all (alone (call v ts)) x
  unfolding own_command activities base
  call-state v ts = acting _ _ _ _ (omega arith)

  pub delay-state : (p q n : ℕ) → doing (λ v. if_large v (ltb most_delay n)) (beginning x) ≡ over_all (alone (delay p q n)) x
  unfolding own_command activities base
  delay-state p q n = acting _ _ _ _ (omega arith)

  pub change-state : (p : ℕ) (c : Change) (t : Target Name) → outside (inside x) ≡ over_all (alone (change p c t)) x
  unfolding own_command activities base
  change-state p c t = acting _ _ _ _ (omega arith)

  pub assign-state : (v : Name) (e : Term) → term e (beginning x) ≡ over_all (alone (assign v e)) x
  unfolding own_command activities base
  assign-state v e = acting _ _ _ _ (omega arith)

  pub loop-state : (p : ℕ) (b : Commands) → outside (over_all b (inside x)) ≡ over_all (alone (loop p b)) x
  unfolding own_command activities base
  loop-state p b = acting _ _ _ _ (omega arith)

  pub while-state : (p : ℕ) (e : Term) (b : Commands) → outside (over_all b (term e (inside x))) ≡ over_all (alone (while p e b)) x
  unfolding own_command activities base
  while-state p e b = acting _ _ _ _ (omega arith)

  pub choice-state : (p : ℕ) (e : Term) (a b : Commands) → outside (over_all b (over_all a (term e (inside x)))) ≡ over_all (alone (choice p e a b)) x
  unfolding own_command activities base
  choice-state p e a b = acting _ _ _ _ (omega arith)

  pub switch-state : (p : ℕ) (ts : Tests) → outside (over_tests ts (inside x)) ≡ over_all (alone (switch p ts)) x
  unfolding own_command activities base
  switch-state p ts = acting _ _ _ _ (omega arith)

  -- Z8
  pub parallel-state : (p : ℕ) (bs : Strands)
      → with_acts (doing (λ v. if_large v (ltb most_activities (over_each bs (with_acts (inside x) 0)).acts)) (outside (over_each bs (with_acts (inside x) 0)))) (max x.acts (over_each bs (with_acts (inside x) 0)).acts) ≡ over_all (alone (parallel p bs)) x
  unfolding own_command activities base
  parallel-state p bs =
      let none_before : 0 + activities_sum (base_each bs) ≡ activities_sum (base_each bs) = omega arith in
      ap (λ (n : ℕ). with_acts (doing (λ v. if_large v (ltb most_activities n)) (outside (over_each bs (with_acts (inside x) 0)))) (max x.acts n)) none_before ∙ acting _ _ _ _ (omega arith)

-- ---- cases and branches

pub default-state : (d : Commands) (x : State) → over_all d x ≡ over_tests (default d) x
unfolding own_command activities base
default-state d x = refl

pub case-state : (p : ℕ) (e : Term) (b : Commands) (ts : Tests) (x : State) → over_tests ts (over_all b (term e x)) ≡ over_tests (case p e b ts) x
unfolding own_command activities base
case-state p e b ts x = acting _ _ _ _ (omega arith)

pub none-state : (x : State) → x ≡ over_each unexpanded.none x
unfolding own_command activities base
none-state x = acting _ _ _ _ (omega arith)

pub branch_state : (b : Commands) (bs : Strands) (x : State) → over_each bs (over_branch b x) ≡ over_each (b ∥ bs) x
unfolding own_command activities base
branch_state b bs x = acting _ _ _ _ (omega arith)

-- ---- a list under open calls

pub more-state : {s z : List ℕ} {u : Under} (S : Known s z u) (l : Command) (ls : Commands) (x : State) → over_all (all_of S ls) (over_all (one_of S l) x) ≡ over_all (all_of S (l ⨾ ls)) x
unfolding expand
more-state S l ls x = sym (joined-state (one_of S l) (all_of S ls) x)
