-- One level of a list, of cases and of branches, run from the start.
use mathlib.Core.Path.{◌≡◌, refl, sym, ap, ◌∙◌}
use mathlib.Core.Bool.{Bool, true, false}
use mathlib.Core.List.{List, []}
use Prim.Native.Nat.{ℕ, ◌+◌, ◌-◌, ◌*◌, ◌<◌, ◌≤◌}
use native.Mathlib.Nat.{le-max_left, le-max_right, le_trans, le_refl}
use native.Mathlib.Omega.{arith}
use lib.Dec.{ltb}
use lib.ListN.{length}
use borrow.Author.Tests.{ltb-true, ltb-false}
use Rattle.meaning.specs.Tree.{Head, Stmt, choice, while, loop, switch, parallel, Stmts, end, ◌⨾◌, Cases, default, case, Branches, none, ◌∥◌}
use Rattle.meaning.specs.Numbers.{Variable, Reads, holds}
use Rattle.meaning.specs.Clock.{and_then, first, first_case, stands_at, start, start_all, start_cases, start_each, activities, activities_all, activities_cases, activities_sum}
use Rattle.meaning.proofs.Places.{start-places-all}
use Rattle.nodes.specs.Layout.{what_at, among_of, within, end_at, branch_end_at, width_at, looks_at}
use Rattle.nodes.specs.Decode.{expr_at, most_deep, head_at, list_at, stmt_at, cases_at, branches_at}
use Rattle.nodes.specs.declared.Among.{Among}
use Rattle.nodes.specs.declared.Among.TheVariants as among
use Rattle.nodes.proofs.Laws.{within_more, within-most, end_more, end-most, branch_more, branch_most, list_over, list-opened, cases_over, cases_opened, branches_over, branches_opened, head_is_lem}
use Rattle.runs.specs.declared.Buffer.{Buffer}
use Rattle.runs.specs.declared.How.{How}
use Rattle.runs.specs.declared.How.TheVariants.{Finished}
use Rattle.runs.specs.Run.{Run, looped_run, caught_run}
use Rattle.runs.specs.Buffer.{Holds, Comes, Looked, Open, Joins}
use Rattle.runs.specs.Seen.{then_seen, start_seen, start_all_seen, start_cases_seen, start_each_seen}
use Rattle.runs.proofs.Embed.{place_at}
use Rattle.runs.proofs.Join.{Placed}
use Rattle.runs.proofs.Steps.{finishes_now}
use Rattle.runs.proofs.Comes.{Then, Beside, comes_as, comes_looked, comes_looped, comes_caught, next_open, joins-all}
use Rattle.nodes.specs.Looks.{looks}
use Rattle.nodes.specs.Good.{GoodTest, Good, GoodAll, GoodCases, GoodEach, first_number}

-- ---- lists

pub record Listed (f : ℕ) (t : List ℕ) (i e m : ℕ) : Type 0 where
  pub fuel : 3 * (e - i) ≤ f
  pub more : i < m
  pub most : m ≤ e
  pub opened : list_at f t i e ≡ stmt_at (f - 1) t i m ⨾ list_at (f - 1) t m e

pub listed : (f : ℕ) (t : List ℕ) (i e m : ℕ) → i < e → 3 * (e - i) ≤ f → m ≡ end_at t i e → Listed f t i e m
listed f t i e m h k q =
    rw q (record { fuel = k; more = end_more t i e h; most = end-most t i e h; opened = list-opened f t i e (λ z. omega arith) h })

pub first-list : (f : ℕ) (t : List ℕ) (m e : ℕ) → 3 * (e - m) ≤ f → first (list_at f t m e) ≡ place_at (head_at t m) e
first-list f t m e k = by (ltb m e) refl
  where
    by : (x : Bool) → ltb m e ≡ x → first (list_at f t m e) ≡ place_at (head_at t m) e
    by true p =
        let h : m < e = ltb-true m e p in
        rw (p, list-opened f t m e (λ z. omega arith) h) (ap stands_at (head_is_lem (f - 1) t m (end_at t m e)))
    by false p = rw (p, list_over f t m e (ltb-false m e p))

module _ {f : ℕ} {t : List ℕ} {i e m : ℕ} (L : Listed f t i e m) where
  pub list-good : GoodAll (width_at t) (looks_at t) (list_at f t i e) → Good (width_at t) (looks_at t) (stmt_at (f - 1) t i m) × GoodAll (width_at t) (looks_at t) (list_at (f - 1) t m e)
  unfolding Good
  list-good g = rw L.opened at g

  pub list-first-wide : activities (stmt_at (f - 1) t i m) ≤ activities_all (list_at f t i e)
  unfolding activities
  list-first-wide = rw L.opened (le-max_left _ _)

  pub list-rest-wide : activities_all (list_at (f - 1) t m e) ≤ activities_all (list_at f t i e)
  unfolding activities
  list-rest-wide = rw L.opened (le-max_right _ _)

  pub list_then : (r : Reads)
      → Then (start_all (list_at f t i e) r) (start_all_seen (list_at f t i e) r) (start (stmt_at (f - 1) t i m) r) (start_seen (stmt_at (f - 1) t i m) r) (start_all (list_at (f - 1) t m e) r) (start_all_seen (list_at (f - 1) t m e) r) (head_at t m) e
  unfolding start start_seen
  list_then r =
      record {
        is =
            rw L.opened
            (ap (and_then (start (stmt_at (f - 1) t i m) r) (start_all (list_at (f - 1) t m e) r))
            (first-list (f - 1) t m e (let a : i < m = L.more in let b : m ≤ e = L.most in let c : 3 * (e - i) ≤ f = L.fuel in omega arith)));
        seen = rw L.opened;
      }

pub list-none : (f : ℕ) (t : List ℕ) (i e : ℕ) (r : Reads) (b : ℕ) (l : Buffer) → length l.entries ≡ 8 → e ≤ i → Comes (start_all (list_at f t i e) r) (start_all_seen (list_at f t i e) r) b l l Finished
unfolding start start_seen
list-none f t i e r b l n h = rw (list_over f t i e h) (finishes_now l b n)

-- somewhere an activity stands
pub some-list : (ss : Stmts Variable) → 1 ≤ activities_all ss
unfolding activities
some-list end = le_refl 1
some-list (s ⨾ ss) = le_trans (some-list ss) (le-max_right _ _)

pub some-case : (cs : Cases Variable) → 1 ≤ activities_cases cs
unfolding activities
some-case (default d) = some-list d
some-case (case h e b cs) = le_trans (some-case cs) (le-max_right _ _)

-- ---- cases

pub cases_none : (f : ℕ) (t : List ℕ) (i e : ℕ) (r : Reads) (b : ℕ) (l : Buffer) → length l.entries ≡ 8 → e ≤ i → Comes (start_cases (cases_at f t i e) r) (start_cases_seen (cases_at f t i e) r) b l l Finished
unfolding start start_seen
cases_none f t i e r b l n h = rw (cases_over f t i e h) (finishes_now l b n)

pub record Defaulted (f : ℕ) (t : List ℕ) (i e : ℕ) : Type 0 where
  pub opened : cases_at f t i e ≡ default (list_at (f - 1) t i e)

pub defaulted : (f : ℕ) (t : List ℕ) (i e : ℕ) {a : Among} → i < e → 3 * (e - i) < f → a ≡ among_of (what_at t i) → a ≡ among.Default → Defaulted f t i e
defaulted f t i e h k p q = record { opened = cases_opened f t i e (λ z. omega arith) h p q }

module _ {f : ℕ} {t : List ℕ} {i e : ℕ} (D : Defaulted f t i e) where
  pub default-good : GoodCases (width_at t) (looks_at t) (cases_at f t i e) → GoodAll (width_at t) (looks_at t) (list_at (f - 1) t i e)
  unfolding Good
  default-good g = rw D.opened at g

  pub default_wide : activities_all (list_at (f - 1) t i e) ≡ activities_cases (cases_at f t i e)
  unfolding activities
  default_wide = rw D.opened

  pub default_is : (r : Reads) {b : ℕ} {l k : Buffer} {h : How} → Comes (start_all (list_at (f - 1) t i e) r) (start_all_seen (list_at (f - 1) t i e) r) b l k h → Comes (start_cases (cases_at f t i e) r) (start_cases_seen (cases_at f t i e) r) b l k h
  unfolding start start_seen
  default_is r C = comes_as (rw D.opened) (rw D.opened) C

pub record Tested (f : ℕ) (t : List ℕ) (i e x k : ℕ) : Type 0 where
  pub fuel : 3 * (e - i) < f
  pub more : i < k
  pub most : k ≤ e
  pub opened : cases_at f t i e ≡ case (head_at t i) (expr_at most_deep t x) (list_at (f - 1) t (i + 1) k) (cases_at (f - 1) t k e)

pub tested : (f : ℕ) (t : List ℕ) (i e x m k : ℕ) {a : Among} → i < e → 3 * (e - i) < f → a ≡ among_of (what_at t i) → a ≡ among.Test x m → k ≡ within m i e → Tested f t i e x k
tested f t i e x m k h l p q s =
    rw s (record { fuel = l; more = within_more m i e h; most = within-most m i e h; opened = cases_opened f t i e (λ z. omega arith) h p q })

pub first_cases : (f : ℕ) (t : List ℕ) (m e : ℕ) → 3 * (e - m) < f → first_case (cases_at f t m e) ≡ place_at (head_at t m) e
first_cases f t m e k = by (ltb m e) refl (among_of (what_at t m)) refl
  where
    by : (x : Bool) → ltb m e ≡ x → (a : Among) → among_of (what_at t m) ≡ a → first_case (cases_at f t m e) ≡ place_at (head_at t m) e
    by true p among.Default q =
        let h : m < e = ltb-true m e p in
        ap first_case (cases_opened f t m e (λ z. omega arith) h refl q) ∙ first-list (f - 1) t m e (omega arith)
    by true p (among.Test x n) q =
        let h : m < e = ltb-true m e p in
        ap first_case (cases_opened f t m e (λ z. omega arith) h refl q) ∙ rw p
    by false p a q = rw (p, cases_over f t m e (ltb-false m e p))

module _ {f : ℕ} {t : List ℕ} {i e x k : ℕ} (T : Tested f t i e x k) where
  pub test_good : GoodCases (width_at t) (looks_at t) (cases_at f t i e) → GoodTest (expr_at most_deep t x) × ((looks_at t i ≡ looks (expr_at most_deep t x)) × (GoodAll (width_at t) (looks_at t) (list_at (f - 1) t (i + 1) k) × GoodCases (width_at t) (looks_at t) (cases_at (f - 1) t k e)))
  unfolding Good
  test_good g = rw T.opened at g

  pub test-first-wide : activities_all (list_at (f - 1) t (i + 1) k) ≤ activities_cases (cases_at f t i e)
  unfolding activities
  test-first-wide = rw T.opened (le-max_left _ _)

  pub test-rest-wide : activities_cases (cases_at (f - 1) t k e) ≤ activities_cases (cases_at f t i e)
  unfolding activities
  test-rest-wide = rw T.opened (le-max_right _ _)

  module _ (r : Reads) where
    -- what the body's list and the other cases look at
    abbrev rest_seen : ℕ
    rest_seen = then_seen (start_all (list_at (f - 1) t (i + 1) k) r) (start_all_seen (list_at (f - 1) t (i + 1) k) r) (start_cases_seen (cases_at (f - 1) t k e) r)

    module _ (u : holds (expr_at most_deep t x) r ≡ true) where
      pub test_then : Then (start_cases (cases_at f t i e) r) rest_seen (start_all (list_at (f - 1) t (i + 1) k) r) (start_all_seen (list_at (f - 1) t (i + 1) k) r) (start_cases (cases_at (f - 1) t k e) r) (start_cases_seen (cases_at (f - 1) t k e) r) (head_at t k) e
      unfolding start
      test_then =
          record {
            is =
                rw (T.opened, u)
                (ap (and_then (start_all (list_at (f - 1) t (i + 1) k) r) (start_cases (cases_at (f - 1) t k e) r))
                (first_cases (f - 1) t k e (let a : i < k = T.more in let b : k ≤ e = T.most in let c : 3 * (e - i) < f = T.fuel in omega arith)));
            seen = refl;
          }

      pub test-true : {b : ℕ} {h : How} {l j m : Buffer} → Looked (looks (expr_at most_deep t x)) l j → Comes (start_cases (cases_at f t i e) r) rest_seen b j m h
          → Comes (start_cases (cases_at f t i e) r) (start_cases_seen (cases_at f t i e) r) b l m h
      unfolding start_seen
      test-true L C = comes_as refl (rw (T.opened, u)) (comes_looked L C)

    pub test-false : {b : ℕ} {h : How} {l j m : Buffer} → holds (expr_at most_deep t x) r ≡ false → Looked (looks (expr_at most_deep t x)) l j → Comes (start_cases (cases_at (f - 1) t k e) r) (start_cases_seen (cases_at (f - 1) t k e) r) b j m h
        → Comes (start_cases (cases_at f t i e) r) (start_cases_seen (cases_at f t i e) r) b l m h
    unfolding start start_seen
    test-false u L C = comes_as (rw (T.opened, u)) (rw (T.opened, u)) (comes_looked L C)

-- ---- branches

pub record Branched (f : ℕ) (t : List ℕ) (i e m : ℕ) : Type 0 where
  pub fuel : 3 * (e - i) < f
  pub more : i < m
  pub most : m ≤ e
  pub opened : branches_at f t i e ≡ list_at (f - 1) t i m ∥ branches_at (f - 1) t m e
  pub number : first_number (list_at (f - 1) t i m) ≡ i

first_is : (f : ℕ) (t : List ℕ) (i e : ℕ) → i < e → 3 * (e - i) ≤ f → first_number (list_at f t i e) ≡ i
first_is f t i e h k = rw (list-opened f t i e (λ z. omega arith) h) (ap (λ (x : Head). x.number) (head_is_lem (f - 1) t i (end_at t i e)))

pub branched : (f : ℕ) (t : List ℕ) (i e m : ℕ) → i < e → 3 * (e - i) < f → m ≡ branch_end_at t i e → Branched f t i e m
branched f t i e m h k q =
    rw q (record { fuel = k; more = branch_more t i e h; most = branch_most t i e h; opened = branches_opened f t i e (λ z. omega arith) h; number = first_is (f - 1) t i (branch_end_at t i e) (branch_more t i e h) (let x : branch_end_at t i e ≤ e = branch_most t i e h in omega arith) })

module _ {f : ℕ} {t : List ℕ} {i e m : ℕ} (B : Branched f t i e m) where
  pub branch_good : GoodEach (width_at t) (looks_at t) (branches_at f t i e) → (width_at t i ≡ activities_all (list_at (f - 1) t i m)) × (GoodAll (width_at t) (looks_at t) (list_at (f - 1) t i m) × GoodEach (width_at t) (looks_at t) (branches_at (f - 1) t m e))
  unfolding Good
  branch_good g =
      let (a, r) = rw B.opened at g in
      (ap (width_at t) (sym B.number) ∙ a, r)

  pub branch_wide : activities_all (list_at (f - 1) t i m) + activities_sum (branches_at (f - 1) t m e) ≡ activities_sum (branches_at f t i e)
  unfolding activities
  branch_wide = rw B.opened

  module _ (r : Reads) where
    pub branch_open : {b : ℕ} {h : How} {l k : Buffer} → Comes (start_all (list_at (f - 1) t i m) r) (start_all_seen (list_at (f - 1) t i m) r) b l k h → Open l b → Open k (b + activities_all (list_at (f - 1) t i m))
    branch_open C O = next_open C (start-places-all (list_at (f - 1) t i m) r) O

    pub branch_beside : {w : ℕ} → w ≡ activities_all (list_at (f - 1) t i m)
        → Beside (start_each (branches_at f t i e) r) (start_each_seen (branches_at f t i e) r) w (start_all (list_at (f - 1) t i m) r) (start_all_seen (list_at (f - 1) t i m) r) (start_each (branches_at (f - 1) t m e) r) (start_each_seen (branches_at (f - 1) t m e) r)
    unfolding start start_seen
    branch_beside v = record { is = rw (B.opened, v); seen = rw B.opened }

pub no_branches : (f : ℕ) (t : List ℕ) (i e : ℕ) (r : Reads) {base : ℕ} {how : How} {ones zeros b : ℕ} {h : How} {l k : Buffer} → e ≤ i → Joins base how ones zeros b [] 0 l k h
    → Joins base how ones zeros b (start_each (branches_at f t i e) r) (start_each_seen (branches_at f t i e) r) l k h
unfolding start start_seen
no_branches f t i e r h J = rw (branches_over f t i e h) J

placed : (bs : Branches Variable) (r : Reads) → Placed (start_each bs r)
unfolding start
placed none r = tt
placed (b ∥ bs) r = (start-places-all b r, placed bs r)

-- ---- one statement, once it is known what it is

pub one_is : (f : ℕ) (t : List ℕ) (i e : ℕ) (s : Stmt Variable) → stmt_at f t i e ≡ s → (r : Reads) {b : ℕ} {h : How} {l k : Buffer} → Comes (start s r) (start_seen s r) b l k h → Comes (start (stmt_at f t i e) r) (start_seen (stmt_at f t i e) r) b l k h
one_is f t i e s o r C = comes_as (ap (λ (x : Stmt Variable). start x r) o) (ap (λ (x : Stmt Variable). start_seen x r) o) C

pub record Chosen (f : ℕ) (t : List ℕ) (i e x k : ℕ) : Type 0 where
  pub more : i < k
  pub most : k ≤ e
  pub opened : stmt_at f t i e ≡ choice (head_at t i) (expr_at most_deep t x) (list_at (f - 1) t (i + 1) k) (list_at (f - 1) t k e)

pub chosen : (f : ℕ) (t : List ℕ) (i e x m k : ℕ) → i < e → k ≡ within m i e
    → stmt_at f t i e ≡ choice (head_at t i) (expr_at most_deep t x) (list_at (f - 1) t (i + 1) (within m i e)) (list_at (f - 1) t (within m i e) e) → Chosen f t i e x k
chosen f t i e x m k h q o = rw q (record { more = within_more m i e h; most = within-most m i e h; opened = o })

module _ {f : ℕ} {t : List ℕ} {i e x k : ℕ} (C : Chosen f t i e x k) where
  pub choice-good : Good (width_at t) (looks_at t) (stmt_at f t i e) → GoodTest (expr_at most_deep t x) × ((looks_at t i ≡ looks (expr_at most_deep t x)) × (GoodAll (width_at t) (looks_at t) (list_at (f - 1) t (i + 1) k) × GoodAll (width_at t) (looks_at t) (list_at (f - 1) t k e)))
  unfolding Good
  choice-good g = rw C.opened at g

  pub choice-first-wide : activities_all (list_at (f - 1) t (i + 1) k) ≤ activities (stmt_at f t i e)
  unfolding activities
  choice-first-wide = rw C.opened (le-max_left _ _)

  pub choice-rest-wide : activities_all (list_at (f - 1) t k e) ≤ activities (stmt_at f t i e)
  unfolding activities
  choice-rest-wide = rw C.opened (le-max_right _ _)

  module _ (r : Reads) {b : ℕ} {h : How} {l j m : Buffer} (L : Looked (looks (expr_at most_deep t x)) l j) where
    pub choice-true : holds (expr_at most_deep t x) r ≡ true → Comes (start_all (list_at (f - 1) t (i + 1) k) r) (start_all_seen (list_at (f - 1) t (i + 1) k) r) b j m h → Comes (start (stmt_at f t i e) r) (start_seen (stmt_at f t i e) r) b l m h
    unfolding start start_seen
    choice-true u D = comes_as (rw (C.opened, u)) (rw (C.opened, u)) (comes_looked L D)

    pub choice-false : holds (expr_at most_deep t x) r ≡ false → Comes (start_all (list_at (f - 1) t k e) r) (start_all_seen (list_at (f - 1) t k e) r) b j m h → Comes (start (stmt_at f t i e) r) (start_seen (stmt_at f t i e) r) b l m h
    unfolding start start_seen
    choice-false u D = comes_as (rw (C.opened, u)) (rw (C.opened, u)) (comes_looked L D)

pub record IsWhile (f : ℕ) (t : List ℕ) (i e x : ℕ) : Type 0 where
  pub is : stmt_at f t i e ≡ while (head_at t i) (expr_at most_deep t x) (list_at (f - 1) t (i + 1) e)

module _ {f : ℕ} {t : List ℕ} {i e x : ℕ} (o : IsWhile f t i e x) where
  pub while-good : Good (width_at t) (looks_at t) (stmt_at f t i e) → GoodTest (expr_at most_deep t x) × ((looks_at t i ≡ looks (expr_at most_deep t x)) × GoodAll (width_at t) (looks_at t) (list_at (f - 1) t (i + 1) e))
  unfolding Good
  while-good g = rw o.is at g

  pub while-wide : activities_all (list_at (f - 1) t (i + 1) e) ≡ activities (stmt_at f t i e)
  unfolding activities
  while-wide = rw o.is

  module _ (r : Reads) {b : ℕ} {l j : Buffer} (L : Looked (looks (expr_at most_deep t x)) l j) where
    pub while-true : {h g : How} {k m : Buffer} → holds (expr_at most_deep t x) r ≡ true → Comes (start_all (list_at (f - 1) t (i + 1) e) r) (start_all_seen (list_at (f - 1) t (i + 1) e) r) b j k h
        → ((y : Run) (q : ℕ) → Holds y q k h → Holds (looped_run y b i) q m g) → Comes (start (stmt_at f t i e) r) (start_seen (stmt_at f t i e) r) b l m g
    unfolding start start_seen
    while-true u C p = comes_as (rw (o.is, u)) (rw (o.is, u)) (comes_looked L (comes_looped C (head_at t i) p))

    pub while-false : holds (expr_at most_deep t x) r ≡ false → Comes (start (stmt_at f t i e) r) (start_seen (stmt_at f t i e) r) b l j Finished
    unfolding start start_seen
    while-false u = comes_as (rw (o.is, u)) (rw (o.is, u)) (comes_looked L (finishes_now j b L.long))

pub record IsLoop (f : ℕ) (t : List ℕ) (i e : ℕ) : Type 0 where
  pub is : stmt_at f t i e ≡ loop (head_at t i) (list_at (f - 1) t (i + 1) e)

module _ {f : ℕ} {t : List ℕ} {i e : ℕ} (o : IsLoop f t i e) where
  pub loop-good : Good (width_at t) (looks_at t) (stmt_at f t i e) → GoodAll (width_at t) (looks_at t) (list_at (f - 1) t (i + 1) e)
  unfolding Good
  loop-good g = rw o.is at g

  pub loop-wide : activities_all (list_at (f - 1) t (i + 1) e) ≡ activities (stmt_at f t i e)
  unfolding activities
  loop-wide = rw o.is

  pub loop_is : (r : Reads) {b : ℕ} {h g : How} {l k m : Buffer} → Comes (start_all (list_at (f - 1) t (i + 1) e) r) (start_all_seen (list_at (f - 1) t (i + 1) e) r) b l k h
      → ((y : Run) (q : ℕ) → Holds y q k h → Holds (looped_run y b i) q m g) → Comes (start (stmt_at f t i e) r) (start_seen (stmt_at f t i e) r) b l m g
  unfolding start start_seen
  loop_is r C p = comes_as (rw o.is) (rw o.is) (comes_looped C (head_at t i) p)

pub record IsSwitch (f : ℕ) (t : List ℕ) (i e : ℕ) : Type 0 where
  pub is : stmt_at f t i e ≡ switch (head_at t i) (cases_at (f - 1) t (i + 1) e)

module _ {f : ℕ} {t : List ℕ} {i e : ℕ} (o : IsSwitch f t i e) where
  pub switch-good : Good (width_at t) (looks_at t) (stmt_at f t i e) → GoodCases (width_at t) (looks_at t) (cases_at (f - 1) t (i + 1) e)
  unfolding Good
  switch-good g = rw o.is at g

  pub switch-wide : activities_cases (cases_at (f - 1) t (i + 1) e) ≡ activities (stmt_at f t i e)
  unfolding activities
  switch-wide = rw o.is

  pub switch_is : (r : Reads) {b : ℕ} {h g : How} {l k : Buffer} → Comes (start_cases (cases_at (f - 1) t (i + 1) e) r) (start_cases_seen (cases_at (f - 1) t (i + 1) e) r) b l k h
      → ((y : Run) (q : ℕ) (m : Buffer) → Holds y q m h → Holds (caught_run y) q m g) → Comes (start (stmt_at f t i e) r) (start_seen (stmt_at f t i e) r) b l k g
  unfolding start start_seen
  switch_is r C p = comes_as (rw o.is) (rw o.is) (comes_caught C p)

pub record IsParallel (f : ℕ) (t : List ℕ) (i e : ℕ) : Type 0 where
  pub is : stmt_at f t i e ≡ parallel (head_at t i) (branches_at (f - 1) t (i + 1) e)

module _ {f : ℕ} {t : List ℕ} {i e : ℕ} (o : IsParallel f t i e) where
  pub parallel-good : Good (width_at t) (looks_at t) (stmt_at f t i e) → GoodEach (width_at t) (looks_at t) (branches_at (f - 1) t (i + 1) e)
  unfolding Good
  parallel-good g = rw o.is at g

  pub parallel-wide : activities_sum (branches_at (f - 1) t (i + 1) e) ≡ activities (stmt_at f t i e)
  unfolding activities
  parallel-wide = rw o.is

  pub parallel_is : (r : Reads) {b : ℕ} {h g : How} {l k : Buffer} → Open l b → Joins b Finished 0 0 b (start_each (branches_at (f - 1) t (i + 1) e) r) (start_each_seen (branches_at (f - 1) t (i + 1) e) r) l k h
      → ((y : Run) (q : ℕ) (m : Buffer) → Holds y q m h → Holds (caught_run y) q m g) → Comes (start (stmt_at f t i e) r) (start_seen (stmt_at f t i e) r) b l k g
  unfolding start start_seen
  parallel_is r O J p = comes_as (rw o.is) (rw o.is) (comes_caught (joins-all O (placed (branches_at (f - 1) t (i + 1) e) r) J) p)
