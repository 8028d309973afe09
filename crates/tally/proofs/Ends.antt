-- What a tally says of an outermost call, and what is certain before a call is entered.
-- Assumes nothing.
use mathlib.Core.Bool.{Bool, true, false, cond}
use mathlib.Core.Path.{◌≡◌, refl, sym, ap, ◌∙◌}
use Prim.Native.Nat.{ℕ, ◌+◌, ◌≤◌, min, max}
use native.Mathlib.Omega.{arith}
use borrow.Author.Tests.{le-ltb, leb-true}
use lib.Dec.{leb}
use Rattle.meaning.specs.Clock.{activities, activities_all}
use Rattle.meaning.specs.Kinds.{both}
use Rattle.meaning.specs.Sizes.{most_statements, most_parts}
use Rattle.meaning.specs.Levels.{most_levels}
use Rattle.meaning.specs.Items.{items_all}
use Rattle.meaning.specs.Unexpanded.{Command, skip, delay, change, assign, choice, while, loop, exit, break, switch, parallel, call, passing, Commands, end, ◌⨾◌}
use Rattle.meaning.specs.Base.{base, base_all}
use Rattle.meaning.specs.Expansion.{followed_by}
use Rattle.own_law.specs.Own.{Own, nothing, past, begun, own_command, own_all}
use Rattle.own_law.proofs.Borne.{bears, made, often}
use Rattle.own_law.proofs.Own.{statements_in, parts_in, all-adds, over_stays, nothing-sound}
use Rattle.own_law.proofs.Around.{around, counts-around}
use Rattle.own_law.proofs.Early.{closed_stays, opened_stays, large_stays, term_stays, all_stay, tests_stay, each_stay}
use Rattle.own_law.proofs.Calls.{own-joined}
use Rattle.tally.specs.declared.Tally.{Tally}
use Rattle.tally.specs.Tally.{most_counted, full_tally, none_left, over_tally}
use Rattle.tally.specs.Holds.{State, at_start, counts_of, over_all, Holds}
use Rattle.tally.proofs.Steps.{over_on, full_holds}

-- ---- activities of lists

pub acts-some : (x : Commands) → 1 ≤ activities_all (base_all x)
unfolding activities base
acts-some end = omega arith
acts-some (l ⨾ ls) = omega (arith, acts-some ls)

acts-joined : (x y : Commands) → activities_all (base_all (followed_by x y)) ≡ max (activities_all (base_all x)) (activities_all (base_all y))
unfolding activities base followed_by
acts-joined end y = omega (arith, acts-some y)
acts-joined (l ⨾ ls) y = omega (arith, acts-joined ls y)

-- one list behind the other
pub joined-state : (x y : Commands) (u : State) → over_all (followed_by x y) u ≡ over_all y (over_all x u)
joined-state x y u =
    let state : Own → Own → ℕ → State = λ a b c. record { every = a; counts = b; acts = c } in
    ap (λ (o : Own). state o (own_all false (followed_by x y) u.counts) (max u.acts (activities_all (base_all (followed_by x y))))) (own-joined true x y u.every)
    ∙ ap (λ (o : Own). state (own_all true y (own_all true x u.every)) o (max u.acts (activities_all (base_all (followed_by x y))))) (own-joined false x y u.counts)
    ∙ ap (state (own_all true y (own_all true x u.every)) (own_all false y (own_all false x u.counts))) (omega (arith, acts-joined x y))

pub end-state : (u : State) → 1 ≤ u.acts → u ≡ over_all end u
unfolding own_command activities base
end-state u h = ap (λ (c : ℕ). record { every = u.every; counts = u.counts; acts = c }) (omega arith)

-- ---- too many for certain

-- every statement counts
begins : (v : Bool) (l : Command) (o : Own) → (begun o).over ≡ true → (own_command v l o).over ≡ true
unfolding own_command
begins v (skip p) o e = e
begins v (delay p q n) o e = over_on (large_stays v _) (begun o) e
begins v (change p c t) o e = over_on closed_stays _ (over_on (opened_stays v) (begun o) e)
begins v (assign n t) o e = over_on (term_stays v t) (begun o) e
begins v (choice p t a b) o e = over_on closed_stays _ (over_on (all_stay v b) _ (over_on (all_stay v a) _ (over_on (term_stays v t) _ (over_on (opened_stays v) (begun o) e))))
begins v (while p t b) o e = over_on closed_stays _ (over_on (all_stay v b) _ (over_on (term_stays v t) _ (over_on (opened_stays v) (begun o) e)))
begins v (loop p b) o e = over_on closed_stays _ (over_on (all_stay v b) _ (over_on (opened_stays v) (begun o) e))
begins v (exit p) o e = e
begins v (break p) o e = e
begins v (switch p ts) o e = over_on closed_stays _ (over_on (tests_stay v ts) _ (over_on (opened_stays v) (begun o) e))
begins v (parallel p bs) o e = over_on (large_stays v _) _ (over_on closed_stays _ (over_on (each_stay v bs) _ (over_on (opened_stays v) (begun o) e)))
begins v (call n ts) o e = e
begins v (passing p k) o e = over_on (large_stays v _) _ (over_on (over_stays (often v k)) (begun o) e)

begun_full : (a b k : ℕ) → most_statements ≤ a → (begun (made a b k false)).over ≡ true
unfolding begun
begun_full a b k h = rw (le-ltb a most_statements h) refl

module _ {k : ℕ} {m : Tally} {x : State} (h : Holds k m x) where
  -- all statements are counted already, and there is one more
  pub one_too_many : m.passed ≡ false → most_statements ≤ m.statements → (l : Command) (ls : Commands) → Holds k (full_tally m) (over_all (l ⨾ ls) x)
  unfolding own_command
  one_too_many e most l ls =
      full_holds m (over_on (all_stay false ls) (own_command false l x.counts) (begins false l x.counts (ap (λ (o : Own). (begun o).over) (h.exact e).counts ∙ begun_full m.statements m.parts k most)))

  pub none_left_lem : none_left m ≡ true → (l : Command) (ls : Commands) → Holds k (full_tally m) (over_all (l ⨾ ls) x)
  unfolding none_left
  none_left_lem e l ls = by m.passed refl e
    where
      by : (b : Bool) → m.passed ≡ b → cond b true (leb most_statements m.statements) ≡ true → Holds k (full_tally m) (over_all (l ⨾ ls) x)
      by true p e = full_holds m (over_on (all_stay false (l ⨾ ls)) x.counts (h.over p))
      by false p e = one_too_many p (leb-true most_statements m.statements e) l ls

-- ---- an outermost call

-- P14: statements and parts are counted alike, whatever levels are open around
levels_aside : (v : Commands) (n : ℕ) → (own_all false v (around n)).over ≡ (own_all false v nothing).over
unfolding bears
levels_aside v n =
    ap (λ (o : Own). o.over) ((all-adds false v).to (around n) refl)
    ∙ by (both (leb (0 + statements_in (items_all (base_all v))) most_statements) (leb (0 + parts_in (items_all (base_all v))) most_parts))
    ∙ sym (ap (λ (o : Own). o.over) ((all-adds false v).to nothing (nothing-sound false)))
  where
    by : (b : Bool) → (cond (both b true) (made (0 + statements_in (items_all (base_all v))) (0 + parts_in (items_all (base_all v))) n false) past).over ≡ (cond (both b true) (made (0 + statements_in (items_all (base_all v))) (0 + parts_in (items_all (base_all v))) 0 false) past).over
    by true = refl
    by false = refl

module _ (v : Commands) (n : ℕ) {r : Tally} (h : Holds n r (over_all v (at_start n))) where
  -- P14: whether a statement or a part is too many
  pub told-counts : r.passed ≡ (own_all false v nothing).over
  told-counts = by r.passed refl ∙ levels_aside v n
    where
      by : (b : Bool) → r.passed ≡ b → b ≡ (own_all false v (around n)).over
      by true e = sym (h.over e)
      by false e = sym (ap (λ (o : Own). o.over) (h.exact e).counts)

  -- P12, P13: whether a size is passed with these levels open around
  pub told-every : n ≤ most_levels → over_tally r ≡ (own_all true v (around n)).over
  unfolding over_tally
  told-every few = by r.passed refl
    where
      if_large_lem : (l : Bool) → l ≡ (cond l past (counts_of n r)).over
      if_large_lem true = refl
      if_large_lem false = refl

      by : (b : Bool) → r.passed ≡ b → cond b true r.large ≡ (own_all true v (around n)).over
      by true e = sym (counts-around v n few (h.over e))
      by false e = if_large_lem r.large ∙ sym (ap (λ (o : Own). o.over) (h.exact e).every)

  -- P14: the activities, if they are not more than the code counts
  pub exact-acts : r.passed ≡ false → r.acts ≡ min (activities_all (base_all v)) most_counted
  exact-acts e = (h.exact e).acts ∙ omega (arith, acts-some v)
