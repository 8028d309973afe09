-- A reader that stops as soon as it is over agrees with the whole count, and what it gives for an outermost call.
-- Assumes nothing.
use mathlib.Core.Path.{◌≡◌, refl, sym, ap, ◌∙◌}
use mathlib.Core.Bool.{Bool, true, false, cond}
use mathlib.Core.List.{List}
use Prim.Native.Nat.{ℕ}
use native.Mathlib.Omega.{arith}
use Rattle.meaning.specs.Tree as tree
use Rattle.meaning.specs.Tree.{Name, Stmts}
use Rattle.meaning.specs.Unexpanded.{Term, Command, passing, Commands, Tests, Strands, Procedure}
use Rattle.meaning.specs.Base.{head_at, idle}
use Rattle.meaning.specs.Expansion.{alone, outermost}
use Rattle.own_law.specs.Own.{Own, nothing, begun, parted, closed, opened, if_large, own_term, own_command, own_all, own_tests, own_each, Agrees}
use Rattle.own_law.specs.Noted.{read_by}
use Rattle.own_law.proofs.Own.{over_stays, term_adds, command_adds, all-adds, tests-add, each-adds}
use Rattle.own_law.proofs.Calls.{expansion, kept, outermost_by}
use Rattle.own_law.proofs.Noted.{read-passing}

-- what is over stays as it is
abbrev pub Stays : (Own → Own) → Type 0
Stays f = (o : Own) → o.over ≡ true → f o ≡ o

-- ---- every step and every walk

chosen : {A : Type 0} (b : Bool) (x y : A) → b ≡ true → cond b x y ≡ x
chosen true x y e = refl
chosen false x y e = absurd (let z : ◌≡◌ {A = ℕ} 0 1 = cc in omega arith)

pub begun_stays : Stays begun
unfolding begun
begun_stays o e = chosen o.over o _ e

pub parted_stays : Stays parted
unfolding parted
parted_stays o e = chosen o.over o _ e

pub closed_stays : Stays closed
unfolding closed
closed_stays o e = chosen o.over o _ e

module _ (v : Bool) where
  pub opened_stays : Stays (opened v)
  unfolding opened
  opened_stays o e = chosen o.over o _ e

  pub large_stays : (big : Bool) → Stays (if_large v big)
  unfolding if_large
  large_stays big o e = chosen o.over o _ e

  pub term_stays : (e : Term) → Stays (own_term v e)
  term_stays e = over_stays (term_adds v e)

  pub command_stays : (c : Command) → Stays (own_command v c)
  command_stays c = over_stays (command_adds v c)

  pub all_stay : (x : Commands) → Stays (own_all v x)
  all_stay x = over_stays (all-adds v x)

  pub tests_stay : (ts : Tests) → Stays (own_tests v ts)
  tests_stay ts = over_stays (tests-add v ts)

  pub each_stay : (bs : Strands) → Stays (own_each v bs)
  each_stay bs = over_stays (each-adds v bs)

-- ---- one behind the other

module _ {f g : Own → Own} (stays : Stays g) (o r : Own) (a : Agrees f o r) where
  -- the rest need not be read
  pub agrees_early : r.over ≡ true → Agrees (λ (u : Own). g (f u)) o r
  agrees_early e =
      record {
        same_over = a.same_over ∙ sym (ap (λ (u : Own). u.over) (stays (f o) (sym a.same_over ∙ e)));
        exact = λ h. absurd (let z : ◌≡◌ {A = ℕ} 0 1 = cc in omega arith);
      }

  pub agrees_then : (q : Own) → Agrees g r q → Agrees (λ (u : Own). g (f u)) o q
  agrees_then q b = by r.over refl
    where
      by : (k : Bool) → r.over ≡ k → Agrees (λ (u : Own). g (f u)) o q
      by true e =
          let kept-over : q.over ≡ true = b.same_over ∙ ap (λ (u : Own). u.over) (stays r e) ∙ e in
          let whole-over : (g (f o)).over ≡ true = ap (λ (u : Own). u.over) (stays (f o) (sym a.same_over ∙ e)) ∙ sym a.same_over ∙ e in
          record { same_over = kept-over ∙ sym whole-over; exact = λ h. absurd (let z : ◌≡◌ {A = ℕ} 0 1 = cc in omega arith) }
      by false e = record { same_over = b.same_over ∙ ap (λ (u : Own). (g u).over) (a.exact e); exact = λ h. b.exact h ∙ ap g (a.exact e) }

-- ---- an outermost call

module _ {S : Type 0} (six nine : ℕ → S → S) (fold : Stmts Name → S → S) (ps : List Procedure) (v : Name) (ts : List Term) (n : ℕ) (s : S) where
  -- P13, P14: read as it stands, or 9 and its activities
  pub read-outermost : read_by six nine fold n (outermost ps v ts) s
      ≡ cond (own_all true (expansion ps v ts) nothing).over (nine v.place (fold (tree.◌⨾◌ (tree.parallel (head_at v.place) (idle v.place (kept ps v ts))) tree.end) s)) (read_by six nine fold n (expansion ps v ts) s)
  read-outermost = ap (λ (x : Commands). read_by six nine fold n x s) (outermost_by ps v ts) ∙ by (own_all true (expansion ps v ts) nothing).over
    where
      by : (b : Bool) → read_by six nine fold n (cond b (alone (passing v.place (kept ps v ts))) (expansion ps v ts)) s
          ≡ cond b (nine v.place (fold (tree.◌⨾◌ (tree.parallel (head_at v.place) (idle v.place (kept ps v ts))) tree.end) s)) (read_by six nine fold n (expansion ps v ts) s)
      by true = read-passing six nine fold n v.place (kept ps v ts) s
      by false = refl
