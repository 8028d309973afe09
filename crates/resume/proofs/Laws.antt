-- One level of a statement, a list, cases and branches, run from where the activities stand.
use mathlib.Core.Path.{◌≡◌, refl, sym, ap, ◌∙◌}
use mathlib.Core.Bool.{Bool, true, false, cond}
use mathlib.Core.List.{List, []}
use Prim.Native.Nat.{ℕ, ◌+◌, ◌-◌, ◌*◌, ◌<◌, ◌≤◌}
use native.Mathlib.Nat.{le-max_left, le-max_right, le_refl}
use native.Mathlib.Omega.{arith}
use lib.Dec.{ltb, eqb}
use lib.ListN.{get_or, take, drop}
use borrow.Author.Tests.{lt-ltb, le-ltb, eq-eqb, ne_eqb, eqb-true}
use Rattle.meaning.specs.Tree.{Expr, Head, Stmt, Stmts, end, ◌⨾◌, Cases, Branches, none, ◌∥◌}
use Rattle.meaning.specs.Tree as tree
use Rattle.meaning.specs.Numbers.{Variable, Reads}
use Rattle.meaning.specs.Clock.{finishes, and_then, again, delayed, left_of, nowhere, some_at, inside, inside_all, start, start_all, start_cases, resume, resume_all, resume_cases, resume_each, activities, activities_all, activities_cases, activities_sum}
use Rattle.meaning.specs.Clock as clock
use Rattle.meaning.proofs.Places.{resume-places-all}
use Rattle.nodes.specs.Layout.{what_at, shape_of, within, end_at, width_at, looks_at}
use Rattle.nodes.specs.Decode.{expr_at, most_deep, head_at, stmt_of, list_at, stmt_at, cases_at, branches_at}
use Rattle.nodes.specs.declared.Shape.{Shape}
use Rattle.nodes.specs.declared.Shape.TheVariants.{Plain, Waiting, Either, Repeat, Tests, Together}
use Rattle.nodes.specs.declared.What.{What}
use Rattle.nodes.specs.declared.What.TheVariants.{Skip, Delay, Change, Assign, Choice, While, Loop, Exit, Break, Switch, Parallel, Case}
use Rattle.nodes.proofs.Laws.{within_more, within-most, stmt_opened, branches_over}
use Rattle.runs.specs.declared.Buffer.{Buffer}
use Rattle.runs.specs.declared.Entry.{Entry}
use Rattle.runs.specs.declared.How.{How}
use Rattle.runs.specs.declared.How.TheVariants.{Finished}
use Rattle.runs.specs.Run.{Run, window, caught_run}
use Rattle.runs.specs.Buffer.{Holds, Comes, Open, Joins}
use Rattle.runs.specs.Seen.{then_seen, start_seen, start_all_seen, start_cases_seen, resume_seen, resume_all_seen, resume_cases_seen, resume_each_seen}
use Rattle.runs.proofs.Join.{Placed}
use Rattle.runs.proofs.Steps.{finishes_now}
use Rattle.runs.proofs.Comes.{Then, Again, Beside, comes_as, comes_caught, next_open, joins-all}
use Rattle.start.proofs.Laws.{Listed, first-list, Tested, Defaulted, first_cases, Branched}
use Rattle.nodes.specs.Good.{Good, GoodAll, GoodCases, GoodEach}
use Rattle.resume.specs.Stand.{resumed_as, Stand}
use Rattle.resume.proofs.Least.{least_ge, least-next, least_skip, some_at_lem, window-take, window-drop}
use Rattle.resume.proofs.Inside.{leaf-end, inside-list, inside_stmt}

-- ---- where the activities stand

pub from : {t : List ℕ} {old : List Entry} {o : Buffer} {b w i m n : ℕ} → Stand t old o b w i m n → i ≤ 65535 → i ≤ m
from {t} {old} {o} {b} {w} {i} S u = rw S.is_least (least_ge (window old b w) i u)

module _ {t : List ℕ} {old : List Entry} {o : Buffer} {b w i m n : ℕ} (S : Stand t old o b w i m n) (small : i < 65535) where
  pub at_head : m ≡ i → some_at i (window old b w) ≡ true
  at_head e = some_at_lem (window old b w) i m small S.is_least ∙ eq-eqb m i e

  pub not_head : (m ≡ i → ⊥) → some_at i (window old b w) ≡ false
  not_head e = some_at_lem (window old b w) i m small S.is_least ∙ ne_eqb m i e

  -- in the parts of the statement i
  pub deeper : (m ≡ i → ⊥) → (k : ℕ) → k ≤ w → Stand t old o b w (i + 1) m k
  deeper e k h = record { leaves = S.leaves; room = S.room; wide = h; kept = S.kept; free = S.free; is_least = S.is_least ∙ sym (least-next (window old b w) i (not_head e)) }

  pub further : (j : ℕ) → i ≤ j → j ≤ m → (k : ℕ) → k ≤ w → Stand t old o b w j m k
  further j h l k u = record { leaves = S.leaves; room = S.room; wide = u; kept = S.kept; free = S.free; is_least = S.is_least ∙ sym (least_skip (window old b w) i j h (rw (← S.is_least) l)) }

  pub fewer : (k : ℕ) → k ≤ w → Stand t old o b w i m k
  fewer k h = record { leaves = S.leaves; room = S.room; wide = h; kept = S.kept; free = S.free; is_least = S.is_least }

-- ---- lists

outside-step : {A : Type 0} (p q : Bool) (o n x : A) → cond p true q ≡ false → (q ≡ false → n ≡ x) → cond p o n ≡ x
outside-step true q o n x e k = absurd (let z : ◌≡◌ {A = Bool} true false = e in let y : ◌≡◌ {A = ℕ} 0 1 = cc in omega arith)
outside-step false q o n x e k = k e

all-outside : (ss : Stmts Variable) (ws : List clock.Entry) (r : Reads) → inside_all ss ws ≡ false → resume_all ss ws r ≡ finishes
unfolding inside resume
all-outside end ws r e = refl
all-outside (s ⨾ ss) ws r e = outside-step (inside s ws) (inside_all ss ws) _ _ finishes e (all-outside ss ws r)

none_seen : (ss : Stmts Variable) (ws : List clock.Entry) (r : Reads) → inside_all ss ws ≡ false → resume_all_seen ss ws r ≡ 0
unfolding inside resume_seen
none_seen end ws r e = refl
none_seen (s ⨾ ss) ws r e = outside-step (inside s ws) (inside_all ss ws) _ _ 0 e (none_seen ss ws r)

pub list-outside : (f : ℕ) (t : List ℕ) (i e : ℕ) (r : Reads) {old : List Entry} {o : Buffer} {b w m n : ℕ} → Stand t old o b w i m n → i ≤ 65535 → e ≤ 65535 → 3 * (e - i) ≤ f → e ≤ m
    → Comes (resume_all (list_at f t i e) (window old b w) r) (resume_all_seen (list_at f t i e) (window old b w) r) b o o Finished
list-outside f t i e r {old} {o} {b} {w} {m} S u s k h =
    let out : inside_all (list_at f t i e) (window old b w) ≡ false = inside-list t S.leaves (window old b w) f i e s u k ∙ rw (← S.is_least) (le-ltb m e h) in
    comes_as (all-outside (list_at f t i e) (window old b w) r out) (none_seen (list_at f t i e) (window old b w) r out) (finishes_now o b S.free.long)

module _ {f : ℕ} {t : List ℕ} {i e k : ℕ} (L : Listed f t i e k) (q : k ≡ end_at t i e) (s : e ≤ 65535)
    {old : List Entry} {o : Buffer} {b w m n : ℕ} (S : Stand t old o b w i m n) (r : Reads) where
  abbrev W : List clock.Entry
  W = window old b w

  inside-first : inside (stmt_at (f - 1) t i k) W ≡ ltb m k
  inside-first =
      inside_stmt t S.leaves W (f - 1) i k (let a : k ≤ e = L.most in omega arith) L.more (let a : k ≤ e = L.most in let c : 3 * (e - i) ≤ f = L.fuel in let d : i < k = L.more in omega arith)
      (λ l. q ∙ leaf-end t S.leaves W i e (let a : k ≤ e = L.most in let d : i < k = L.more in omega arith) l)
      ∙ ap (λ (x : ℕ). ltb x k) (sym S.is_least)

  pub list_then : m < k
      → Then (resume_all (list_at f t i e) W r) (resume_all_seen (list_at f t i e) W r) (resume (stmt_at (f - 1) t i k) W r) (resume_seen (stmt_at (f - 1) t i k) W r) (start_all (list_at (f - 1) t k e) r) (start_all_seen (list_at (f - 1) t k e) r) (head_at t k) e
  unfolding resume resume_seen
  list_then h =
      record {
        is =
            rw (L.opened, inside-first, lt-ltb m k h)
            (ap (and_then (resume (stmt_at (f - 1) t i k) W r) (start_all (list_at (f - 1) t k e) r))
            (first-list (f - 1) t k e (let a : i < k = L.more in let c : 3 * (e - i) ≤ f = L.fuel in omega arith)));
        seen = rw (L.opened, inside-first, lt-ltb m k h);
      }

  pub list-later : {l j : Buffer} {g : How} → k ≤ m → Comes (resume_all (list_at (f - 1) t k e) W r) (resume_all_seen (list_at (f - 1) t k e) W r) b l j g → Comes (resume_all (list_at f t i e) W r) (resume_all_seen (list_at f t i e) W r) b l j g
  unfolding resume resume_seen
  list-later h C = comes_as (rw (L.opened, inside-first, le-ltb m k h)) (rw (L.opened, inside-first, le-ltb m k h)) C

-- ---- cases

pub default_is : {f : ℕ} {t : List ℕ} {i e : ℕ} → Defaulted f t i e → (ws : List clock.Entry) (r : Reads) {b : ℕ} {g : How} {l k : Buffer}
    → Comes (resume_all (list_at (f - 1) t i e) ws r) (resume_all_seen (list_at (f - 1) t i e) ws r) b l k g → Comes (resume_cases (cases_at f t i e) ws r) (resume_cases_seen (cases_at f t i e) ws r) b l k g
unfolding resume resume_seen
default_is D ws r C = comes_as (rw D.opened) (rw D.opened) C

module _ {f : ℕ} {t : List ℕ} {i e x k : ℕ} (T : Tested f t i e x k) (s : e ≤ 65535)
    {old : List Entry} {o : Buffer} {b w m n : ℕ} (S : Stand t old o b w i m n) (r : Reads) where
  abbrev Ws : List clock.Entry
  Ws = window old b w

  small_i : i < 65535
  small_i = let a : i < k = T.more in let c : k ≤ e = T.most in omega arith

  pub case-head : {l j : Buffer} {g : How} → m ≡ i → Comes (start_cases (cases_at f t i e) r) (start_cases_seen (cases_at f t i e) r) b l j g → Comes (resume_cases (cases_at f t i e) Ws r) (resume_cases_seen (cases_at f t i e) Ws r) b l j g
  unfolding resume resume_seen
  case-head h C = comes_as (rw (T.opened, at_head S small_i h)) (rw (T.opened, at_head S small_i h)) C

  in_body : (m ≡ i → ⊥) → inside_all (list_at (f - 1) t (i + 1) k) Ws ≡ ltb m k
  in_body h =
      inside-list t S.leaves Ws (f - 1) (i + 1) k (let c : k ≤ e = T.most in omega arith) (let z : i < 65535 = small_i in omega arith)
      (let a : i < k = T.more in let c : k ≤ e = T.most in let d : 3 * (e - i) < f = T.fuel in omega arith)
      ∙ ap (λ (y : ℕ). ltb y k) (least-next Ws i (not_head S small_i h) ∙ sym S.is_least)

  pub case_then : (m ≡ i → ⊥) → m < k
      → Then (resume_cases (cases_at f t i e) Ws r) (resume_cases_seen (cases_at f t i e) Ws r) (resume_all (list_at (f - 1) t (i + 1) k) Ws r) (resume_all_seen (list_at (f - 1) t (i + 1) k) Ws r) (start_cases (cases_at (f - 1) t k e) r) (start_cases_seen (cases_at (f - 1) t k e) r) (head_at t k) e
  unfolding resume resume_seen
  case_then h l =
      record {
        is =
            rw (T.opened, not_head S small_i h, in_body h, lt-ltb m k l)
            (ap (and_then (resume_all (list_at (f - 1) t (i + 1) k) Ws r) (start_cases (cases_at (f - 1) t k e) r))
            (first_cases (f - 1) t k e (let a : i < k = T.more in let c : k ≤ e = T.most in let d : 3 * (e - i) < f = T.fuel in omega arith)));
        seen = rw (T.opened, not_head S small_i h, in_body h, lt-ltb m k l);
      }

  pub case-later : {l j : Buffer} {g : How} → (m ≡ i → ⊥) → k ≤ m → Comes (resume_cases (cases_at (f - 1) t k e) Ws r) (resume_cases_seen (cases_at (f - 1) t k e) Ws r) b l j g
      → Comes (resume_cases (cases_at f t i e) Ws r) (resume_cases_seen (cases_at f t i e) Ws r) b l j g
  unfolding resume resume_seen
  case-later h l C = comes_as (rw (T.opened, not_head S small_i h, in_body h, le-ltb m k l)) (rw (T.opened, not_head S small_i h, in_body h, le-ltb m k l)) C

-- ---- branches

pub no_branches : (f : ℕ) (t : List ℕ) (i e : ℕ) (ws : List clock.Entry) (r : Reads) {base : ℕ} {how : How} {ones zeros b : ℕ} {g : How} {l k : Buffer} → e ≤ i → Joins base how ones zeros b [] 0 l k g
    → Joins base how ones zeros b (resume_each (branches_at f t i e) ws r) (resume_each_seen (branches_at f t i e) ws r) l k g
unfolding resume resume_seen
no_branches f t i e ws r h J = rw (branches_over f t i e h) J

module _ {f : ℕ} {t : List ℕ} {i e k : ℕ} (B : Branched f t i e k) (old : List Entry) (b w : ℕ) (r : Reads) {v : ℕ} (vw : v ≡ activities_all (list_at (f - 1) t i k)) where
  abbrev Bs : List clock.Entry
  Bs = window old b v

  pub branch_open : {l j : Buffer} {g : How} → Comes (resume_all (list_at (f - 1) t i k) Bs r) (resume_all_seen (list_at (f - 1) t i k) Bs r) b l j g → Open l b → Open j (b + v)
  branch_open C O = next_open C (rw vw (resume-places-all (list_at (f - 1) t i k) (window old b (activities_all (list_at (f - 1) t i k))) r)) O

  pub branch_beside : v ≤ w
      → Beside (resume_each (branches_at f t i e) (window old b w) r) (resume_each_seen (branches_at f t i e) (window old b w) r) v (resume_all (list_at (f - 1) t i k) Bs r) (resume_all_seen (list_at (f - 1) t i k) Bs r) (resume_each (branches_at (f - 1) t k e) (window old (b + v) (w - v)) r) (resume_each_seen (branches_at (f - 1) t k e) (window old (b + v) (w - v)) r)
  unfolding resume resume_seen
  branch_beside fits =
      let same : take (activities_all (list_at (f - 1) t i k)) (window old b w) ≡ window old b v = ap (λ (n : ℕ). take n (window old b w)) (sym vw) ∙ window-take old b w v fits in
      let rest : drop (activities_all (list_at (f - 1) t i k)) (window old b w) ≡ window old (b + v) (w - v) = ap (λ (n : ℕ). drop n (window old b w)) (sym vw) ∙ window-drop old b w v in
      record { is = rw (B.opened, same, rest, ← vw); seen = rw (B.opened, same, rest) }

placed : (bs : Branches Variable) (ws : List clock.Entry) (r : Reads) → Placed (resume_each bs ws r)
unfolding resume
placed none ws r = tt
placed (b ∥ bs) ws r = (resume-places-all b (take (activities_all b) ws) r, placed bs (drop (activities_all b) ws) r)

-- ---- one statement, by its shape

abbrev pub shape_number : Shape → ℕ
shape_number Plain = 0
shape_number (Waiting n) = 1
shape_number (Either m) = 2
shape_number Repeat = 3
shape_number Tests = 4
shape_number Together = 5

other : {A : Type 0} (x y : Shape) → x ≡ y → (shape_number x ≡ shape_number y → ⊥) → A
other x y e f = absurd (f (ap shape_number e))

pub waiting_as : (b : Bool) (x : Shape) (d : ℕ) → resumed_as b x ≡ Waiting d → x ≡ Waiting d
waiting_as false x d q = q
waiting_as true Plain d q = other Plain (Waiting d) q (λ z. omega arith)
waiting_as true (Waiting n) d q = q
waiting_as true (Either m) d q = other Plain (Waiting d) q (λ z. omega arith)
waiting_as true Repeat d q = other Plain (Waiting d) q (λ z. omega arith)
waiting_as true Tests d q = other Plain (Waiting d) q (λ z. omega arith)
waiting_as true Together d q = other Plain (Waiting d) q (λ z. omega arith)

-- it stands in a part of the statement
pub inner_as : (b : Bool) (x y : Shape) → resumed_as b x ≡ y → 2 ≤ shape_number y → (b ≡ false) × (x ≡ y)
inner_as false x y q h = (refl, q)
inner_as true Plain y q h = absurd (omega (arith, ap shape_number q))
inner_as true (Waiting n) y q h = absurd (omega (arith, ap shape_number q))
inner_as true (Either m) y q h = absurd (omega (arith, ap shape_number q))
inner_as true Repeat y q h = absurd (omega (arith, ap shape_number q))
inner_as true Tests y q h = absurd (omega (arith, ap shape_number q))
inner_as true Together y q h = absurd (omega (arith, ap shape_number q))

pub record IsPlain (s : Stmt Variable) : Type 0 where
  pub is : (ws : List clock.Entry) (r : Reads) → resume s ws r ≡ start s r
  pub seen : (ws : List clock.Entry) (r : Reads) → resume_seen s ws r ≡ start_seen s r

pub record IsDelay (s : Stmt Variable) (h : Head) (d : ℕ) : Type 0 where
  pub place : ℕ
  pub is : s ≡ tree.delay h place d

pub record IsEither (s : Stmt Variable) (h : Head) (a b : Stmts Variable) : Type 0 where
  pub test : Expr Variable
  pub is : s ≡ tree.choice h test a b

pub record IsRepeat (s : Stmt Variable) (h : Head) (body : Stmts Variable) : Type 0 where
  pub good : (w l : ℕ → ℕ) → Good w l s → GoodAll w l body
  pub wide : activities_all body ≤ activities s
  pub is : (ws : List clock.Entry) (r : Reads) → resume s ws r ≡ cond (some_at h.number ws) (start s r) (again h (start s r) (resume_all body ws r))
  pub seen : (ws : List clock.Entry) (r : Reads) → resume_seen s ws r ≡ cond (some_at h.number ws) (start_seen s r) (then_seen (resume_all body ws r) (resume_all_seen body ws r) (start_seen s r))

module _ (x : ℕ → Expr Variable) (l : ℕ → ℕ → Stmts Variable) (cs : ℕ → ℕ → Cases Variable) (bs : ℕ → ℕ → Branches Variable) (h : Head) (i e : ℕ) where
  abbrev st : What → Stmt Variable
  st w = stmt_of x l cs bs h i e w

  plain_of : (w : What) → shape_of w ≡ Plain → IsPlain (st w)
  unfolding start resume start_seen resume_seen
  plain_of Skip q = record { is = λ ws r. refl; seen = λ ws r. refl }
  plain_of (Delay p n) q = other (shape_of (Delay p n)) Plain q (λ z. omega arith)
  plain_of (Change c v) q = record { is = λ ws r. refl; seen = λ ws r. refl }
  plain_of (Assign v a) q = record { is = λ ws r. refl; seen = λ ws r. refl }
  plain_of (Choice a m) q = other (shape_of (Choice a m)) Plain q (λ z. omega arith)
  plain_of (While a) q = other (shape_of (While a)) Plain q (λ z. omega arith)
  plain_of Loop q = other (shape_of Loop) Plain q (λ z. omega arith)
  plain_of Exit q = record { is = λ ws r. refl; seen = λ ws r. refl }
  plain_of Break q = record { is = λ ws r. refl; seen = λ ws r. refl }
  plain_of Switch q = other (shape_of Switch) Plain q (λ z. omega arith)
  plain_of Parallel q = other (shape_of Parallel) Plain q (λ z. omega arith)
  plain_of (Case a m) q = record { is = λ ws r. refl; seen = λ ws r. refl }

  wait_of : (w : What) (d : ℕ) → shape_of w ≡ Waiting d → IsDelay (st w) h d
  wait_of Skip d q = other (shape_of Skip) (Waiting d) q (λ z. omega arith)
  wait_of (Delay p n) d q = let y : n ≡ d = cc in record { place = p; is = rw y }
  wait_of (Change c v) d q = other (shape_of (Change c v)) (Waiting d) q (λ z. omega arith)
  wait_of (Assign v a) d q = other (shape_of (Assign v a)) (Waiting d) q (λ z. omega arith)
  wait_of (Choice a m) d q = other (shape_of (Choice a m)) (Waiting d) q (λ z. omega arith)
  wait_of (While a) d q = other (shape_of (While a)) (Waiting d) q (λ z. omega arith)
  wait_of Loop d q = other (shape_of Loop) (Waiting d) q (λ z. omega arith)
  wait_of Exit d q = other (shape_of Exit) (Waiting d) q (λ z. omega arith)
  wait_of Break d q = other (shape_of Break) (Waiting d) q (λ z. omega arith)
  wait_of Switch d q = other (shape_of Switch) (Waiting d) q (λ z. omega arith)
  wait_of Parallel d q = other (shape_of Parallel) (Waiting d) q (λ z. omega arith)
  wait_of (Case a m) d q = other (shape_of (Case a m)) (Waiting d) q (λ z. omega arith)

  either_of : (w : What) (j : ℕ) → shape_of w ≡ Either j → IsEither (st w) h (l (i + 1) (within j i e)) (l (within j i e) e)
  unfolding resume Good activities
  either_of Skip j q = other (shape_of Skip) (Either j) q (λ z. omega arith)
  either_of (Delay p n) j q = other (shape_of (Delay p n)) (Either j) q (λ z. omega arith)
  either_of (Change c v) j q = other (shape_of (Change c v)) (Either j) q (λ z. omega arith)
  either_of (Assign v a) j q = other (shape_of (Assign v a)) (Either j) q (λ z. omega arith)
  either_of (Choice a m) j q = let y : m ≡ j = cc in record { test = x a; is = rw y }
  either_of (While a) j q = other (shape_of (While a)) (Either j) q (λ z. omega arith)
  either_of Loop j q = other (shape_of Loop) (Either j) q (λ z. omega arith)
  either_of Exit j q = other (shape_of Exit) (Either j) q (λ z. omega arith)
  either_of Break j q = other (shape_of Break) (Either j) q (λ z. omega arith)
  either_of Switch j q = other (shape_of Switch) (Either j) q (λ z. omega arith)
  either_of Parallel j q = other (shape_of Parallel) (Either j) q (λ z. omega arith)
  either_of (Case a m) j q = other (shape_of (Case a m)) (Either j) q (λ z. omega arith)

  repeat_of : (w : What) → shape_of w ≡ Repeat → IsRepeat (st w) h (l (i + 1) e)
  unfolding resume resume_seen Good activities
  repeat_of Skip q = other (shape_of Skip) Repeat q (λ z. omega arith)
  repeat_of (Delay p n) q = other (shape_of (Delay p n)) Repeat q (λ z. omega arith)
  repeat_of (Change c v) q = other (shape_of (Change c v)) Repeat q (λ z. omega arith)
  repeat_of (Assign v a) q = other (shape_of (Assign v a)) Repeat q (λ z. omega arith)
  repeat_of (Choice a m) q = other (shape_of (Choice a m)) Repeat q (λ z. omega arith)
  repeat_of (While a) q = record { good = λ w l g. g.1.1; wide = le_refl _; is = λ ws r. refl; seen = λ ws r. refl }
  repeat_of Loop q = record { good = λ w l g. g; wide = le_refl _; is = λ ws r. refl; seen = λ ws r. refl }
  repeat_of Exit q = other (shape_of Exit) Repeat q (λ z. omega arith)
  repeat_of Break q = other (shape_of Break) Repeat q (λ z. omega arith)
  repeat_of Switch q = other (shape_of Switch) Repeat q (λ z. omega arith)
  repeat_of Parallel q = other (shape_of Parallel) Repeat q (λ z. omega arith)
  repeat_of (Case a m) q = other (shape_of (Case a m)) Repeat q (λ z. omega arith)

  tests_of_lem : (w : What) → shape_of w ≡ Tests → st w ≡ tree.switch h (cs (i + 1) e)
  unfolding resume Good activities
  tests_of_lem Skip q = other (shape_of Skip) Tests q (λ z. omega arith)
  tests_of_lem (Delay p n) q = other (shape_of (Delay p n)) Tests q (λ z. omega arith)
  tests_of_lem (Change c v) q = other (shape_of (Change c v)) Tests q (λ z. omega arith)
  tests_of_lem (Assign v a) q = other (shape_of (Assign v a)) Tests q (λ z. omega arith)
  tests_of_lem (Choice a m) q = other (shape_of (Choice a m)) Tests q (λ z. omega arith)
  tests_of_lem (While a) q = other (shape_of (While a)) Tests q (λ z. omega arith)
  tests_of_lem Loop q = other (shape_of Loop) Tests q (λ z. omega arith)
  tests_of_lem Exit q = other (shape_of Exit) Tests q (λ z. omega arith)
  tests_of_lem Break q = other (shape_of Break) Tests q (λ z. omega arith)
  tests_of_lem Switch q = refl
  tests_of_lem Parallel q = other (shape_of Parallel) Tests q (λ z. omega arith)
  tests_of_lem (Case a m) q = other (shape_of (Case a m)) Tests q (λ z. omega arith)

  together_of : (w : What) → shape_of w ≡ Together → st w ≡ tree.parallel h (bs (i + 1) e)
  unfolding resume Good activities
  together_of Skip q = other (shape_of Skip) Together q (λ z. omega arith)
  together_of (Delay p n) q = other (shape_of (Delay p n)) Together q (λ z. omega arith)
  together_of (Change c v) q = other (shape_of (Change c v)) Together q (λ z. omega arith)
  together_of (Assign v a) q = other (shape_of (Assign v a)) Together q (λ z. omega arith)
  together_of (Choice a m) q = other (shape_of (Choice a m)) Together q (λ z. omega arith)
  together_of (While a) q = other (shape_of (While a)) Together q (λ z. omega arith)
  together_of Loop q = other (shape_of Loop) Together q (λ z. omega arith)
  together_of Exit q = other (shape_of Exit) Together q (λ z. omega arith)
  together_of Break q = other (shape_of Break) Together q (λ z. omega arith)
  together_of Switch q = other (shape_of Switch) Together q (λ z. omega arith)
  together_of Parallel q = refl
  together_of (Case a m) q = other (shape_of (Case a m)) Together q (λ z. omega arith)

module _ (f : ℕ) (t : List ℕ) (i e : ℕ) (h : i < e) (fuel : 3 * (e - i) ≤ f + 1) {c : Shape} (ce : c ≡ shape_of (what_at t i)) where
  opened : stmt_at f t i e ≡ stmt_of (expr_at most_deep t) (list_at (f - 1) t) (cases_at (f - 1) t) (branches_at (f - 1) t) (head_at t i) i e (what_at t i)
  opened = stmt_opened f t i e {w = what_at t i} {k = what_at t i} (λ z. omega arith) refl refl

  abbrev s : Stmt Variable
  s = stmt_at f t i e

  pub plain_is : c ≡ Plain → (ws : List clock.Entry) (r : Reads) {b : ℕ} {g : How} {l k : Buffer} → Comes (start s r) (start_seen s r) b l k g → Comes (resume s ws r) (resume_seen s ws r) b l k g
  plain_is q ws r C =
      let p : IsPlain s = rw opened (plain_of _ (list_at (f - 1) t) (cases_at (f - 1) t) (branches_at (f - 1) t) _ i e (what_at t i) (sym ce ∙ q)) in
      comes_as (p.is ws r) (p.seen ws r) C

  module _ (d : ℕ) (q : c ≡ Waiting d) where
    waiting : IsDelay s (head_at t i) d
    waiting = rw opened (wait_of _ (list_at (f - 1) t) (cases_at (f - 1) t) (branches_at (f - 1) t) _ i e (what_at t i) d (sym ce ∙ q))

    pub wait_is : (ws : List clock.Entry) (r : Reads) {b : ℕ} {g : How} {l k : Buffer} → Comes (delayed (head_at t i) (left_of d (get_or ws 0 nowhere))) 0 b l k g → Comes (resume s ws r) (resume_seen s ws r) b l k g
    unfolding resume resume_seen
    wait_is ws r C = comes_as (rw waiting.is) (rw waiting.is) C

    pub wait_wide : 1 ≤ activities s
    unfolding activities
    wait_wide = rw waiting.is (le_refl 1)

    pub wait_short : Good (width_at t) (looks_at t) s → d ≤ 255
    unfolding Good
    wait_short g = rw waiting.is at g

  pub either_is : (j : ℕ) → c ≡ Either j → IsEither s (head_at t i) (list_at (f - 1) t (i + 1) (within j i e)) (list_at (f - 1) t (within j i e) e)
  either_is j q = rw opened (either_of _ (list_at (f - 1) t) (cases_at (f - 1) t) (branches_at (f - 1) t) _ i e (what_at t i) j (sym ce ∙ q))

  pub repeat_is : c ≡ Repeat → IsRepeat s (head_at t i) (list_at (f - 1) t (i + 1) e)
  repeat_is q = rw opened (repeat_of _ (list_at (f - 1) t) (cases_at (f - 1) t) (branches_at (f - 1) t) _ i e (what_at t i) (sym ce ∙ q))

  pub tests_is : c ≡ Tests → s ≡ tree.switch (head_at t i) (cases_at (f - 1) t (i + 1) e)
  tests_is q = opened ∙ tests_of_lem _ (list_at (f - 1) t) (cases_at (f - 1) t) (branches_at (f - 1) t) _ i e (what_at t i) (sym ce ∙ q)

  pub together_is : c ≡ Together → s ≡ tree.parallel (head_at t i) (branches_at (f - 1) t (i + 1) e)
  together_is q = opened ∙ together_of _ (list_at (f - 1) t) (cases_at (f - 1) t) (branches_at (f - 1) t) _ i e (what_at t i) (sym ce ∙ q)

pub record Eithered (f : ℕ) (t : List ℕ) (i e k : ℕ) : Type 0 where
  pub fuel : 3 * (e - i) ≤ f + 1
  pub more : i < k
  pub most : k ≤ e
  pub is : IsEither (stmt_at f t i e) (head_at t i) (list_at (f - 1) t (i + 1) k) (list_at (f - 1) t k e)

pub eithered : (f : ℕ) (t : List ℕ) (i e j k : ℕ) {c : Shape} → i < e → 3 * (e - i) ≤ f + 1 → c ≡ shape_of (what_at t i) → c ≡ Either j → k ≡ within j i e → Eithered f t i e k
eithered f t i e j k h fuel ce q w = rw w (record { fuel = fuel; more = within_more j i e h; most = within-most j i e h; is = either_is f t i e h fuel ce j q })

module _ {f : ℕ} {t : List ℕ} {i e k : ℕ} (E : Eithered f t i e k) where
  pub either-good : Good (width_at t) (looks_at t) (stmt_at f t i e) → GoodAll (width_at t) (looks_at t) (list_at (f - 1) t (i + 1) k) × GoodAll (width_at t) (looks_at t) (list_at (f - 1) t k e)
  unfolding Good
  either-good g = (rw E.is.is at g).1.1

  pub either-first-wide : activities_all (list_at (f - 1) t (i + 1) k) ≤ activities (stmt_at f t i e)
  unfolding activities
  either-first-wide = rw E.is.is (le-max_left _ _)

  pub either-rest-wide : activities_all (list_at (f - 1) t k e) ≤ activities (stmt_at f t i e)
  unfolding activities
  either-rest-wide = rw E.is.is (le-max_right _ _)

  module _ (s : e ≤ 65535) {old : List Entry} {o : Buffer} {b w m n : ℕ} (S : Stand t old o b w i m n) (r : Reads) where
    abbrev Es : List clock.Entry
    Es = window old b w

    small_e : i < 65535
    small_e = let a : i < k = E.more in let c : k ≤ e = E.most in omega arith

    either_by : resume (stmt_at f t i e) Es r ≡ cond (some_at i Es) (start (stmt_at f t i e) r) (cond (inside_all (list_at (f - 1) t (i + 1) k) Es) (resume_all (list_at (f - 1) t (i + 1) k) Es r) (resume_all (list_at (f - 1) t k e) Es r))
    unfolding resume
    either_by = rw E.is.is

    either-seen : resume_seen (stmt_at f t i e) Es r ≡ cond (some_at i Es) (start_seen (stmt_at f t i e) r) (cond (inside_all (list_at (f - 1) t (i + 1) k) Es) (resume_all_seen (list_at (f - 1) t (i + 1) k) Es r) (resume_all_seen (list_at (f - 1) t k e) Es r))
    unfolding resume_seen
    either-seen = rw E.is.is

    in_first : (m ≡ i → ⊥) → inside_all (list_at (f - 1) t (i + 1) k) Es ≡ ltb m k
    in_first h =
        inside-list t S.leaves Es (f - 1) (i + 1) k (let c : k ≤ e = E.most in omega arith) (let z : i < 65535 = small_e in omega arith)
        (let a : i < k = E.more in let c : k ≤ e = E.most in let d : 3 * (e - i) ≤ f + 1 = E.fuel in omega arith)
        ∙ ap (λ (y : ℕ). ltb y k) (least-next Es i (not_head S small_e h) ∙ sym S.is_least)

    module _ {l j : Buffer} {g : How} where
      pub either-head : m ≡ i → Comes (start (stmt_at f t i e) r) (start_seen (stmt_at f t i e) r) b l j g → Comes (resume (stmt_at f t i e) Es r) (resume_seen (stmt_at f t i e) Es r) b l j g
      either-head h C = comes_as (either_by ∙ rw (at_head S small_e h)) (either-seen ∙ rw (at_head S small_e h)) C

      pub either_first : (m ≡ i → ⊥) → m < k → Comes (resume_all (list_at (f - 1) t (i + 1) k) Es r) (resume_all_seen (list_at (f - 1) t (i + 1) k) Es r) b l j g → Comes (resume (stmt_at f t i e) Es r) (resume_seen (stmt_at f t i e) Es r) b l j g
      either_first h u C = comes_as (either_by ∙ rw (not_head S small_e h, in_first h, lt-ltb m k u)) (either-seen ∙ rw (not_head S small_e h, in_first h, lt-ltb m k u)) C

      pub either_second : (m ≡ i → ⊥) → k ≤ m → Comes (resume_all (list_at (f - 1) t k e) Es r) (resume_all_seen (list_at (f - 1) t k e) Es r) b l j g → Comes (resume (stmt_at f t i e) Es r) (resume_seen (stmt_at f t i e) Es r) b l j g
      either_second h u C = comes_as (either_by ∙ rw (not_head S small_e h, in_first h, le-ltb m k u)) (either-seen ∙ rw (not_head S small_e h, in_first h, le-ltb m k u)) C

pub record Repeated (f : ℕ) (t : List ℕ) (i e : ℕ) : Type 0 where
  pub small : i < 65535
  pub is : IsRepeat (stmt_at f t i e) (head_at t i) (list_at (f - 1) t (i + 1) e)

module _ {f : ℕ} {t : List ℕ} {i e : ℕ} (R : Repeated f t i e) {old : List Entry} {o : Buffer} {b w m n : ℕ} (S : Stand t old o b w i m n) (r : Reads) where
  abbrev Rs : List clock.Entry
  Rs = window old b w

  pub repeat_head : {l j : Buffer} {g : How} → m ≡ i → Comes (start (stmt_at f t i e) r) (start_seen (stmt_at f t i e) r) b l j g → Comes (resume (stmt_at f t i e) Rs r) (resume_seen (stmt_at f t i e) Rs r) b l j g
  repeat_head h C = comes_as (R.is.is Rs r ∙ rw (at_head S R.small h)) (R.is.seen Rs r ∙ rw (at_head S R.small h)) C

  pub repeat_again : (m ≡ i → ⊥)
      → Again (resume (stmt_at f t i e) Rs r) (resume_seen (stmt_at f t i e) Rs r) (resume_all (list_at (f - 1) t (i + 1) e) Rs r) (resume_all_seen (list_at (f - 1) t (i + 1) e) Rs r) (start (stmt_at f t i e) r) (start_seen (stmt_at f t i e) r) (head_at t i)
  repeat_again h = record { is = R.is.is Rs r ∙ rw (not_head S R.small h); seen = R.is.seen Rs r ∙ rw (not_head S R.small h) }

pub record Switched (f : ℕ) (t : List ℕ) (i e : ℕ) : Type 0 where
  pub small : i < 65535
  pub is : stmt_at f t i e ≡ tree.switch (head_at t i) (cases_at (f - 1) t (i + 1) e)

module _ {f : ℕ} {t : List ℕ} {i e : ℕ} (R : Switched f t i e) where
  pub switch-good : Good (width_at t) (looks_at t) (stmt_at f t i e) → GoodCases (width_at t) (looks_at t) (cases_at (f - 1) t (i + 1) e)
  unfolding Good
  switch-good g = rw R.is at g

  pub switch-wide : activities_cases (cases_at (f - 1) t (i + 1) e) ≡ activities (stmt_at f t i e)
  unfolding activities
  switch-wide = rw R.is

  module _ {old : List Entry} {o : Buffer} {b w m n : ℕ} (S : Stand t old o b w i m n) (r : Reads) where
    pub switch_head : {l j : Buffer} {g : How} → m ≡ i → Comes (start (stmt_at f t i e) r) (start_seen (stmt_at f t i e) r) b l j g
        → Comes (resume (stmt_at f t i e) (window old b w) r) (resume_seen (stmt_at f t i e) (window old b w) r) b l j g
    unfolding resume resume_seen
    switch_head h C = comes_as (rw (R.is, at_head S R.small h)) (rw (R.is, at_head S R.small h)) C

    pub switch_in : {l j : Buffer} {g h : How} → (m ≡ i → ⊥) → Comes (resume_cases (cases_at (f - 1) t (i + 1) e) (window old b w) r) (resume_cases_seen (cases_at (f - 1) t (i + 1) e) (window old b w) r) b l j g
        → ((y : Run) (q : ℕ) (k : Buffer) → Holds y q k g → Holds (caught_run y) q k h) → Comes (resume (stmt_at f t i e) (window old b w) r) (resume_seen (stmt_at f t i e) (window old b w) r) b l j h
    unfolding resume resume_seen
    switch_in u C p = comes_as (rw (R.is, not_head S R.small u)) (rw (R.is, not_head S R.small u)) (comes_caught C p)

pub record Paralleled (f : ℕ) (t : List ℕ) (i e : ℕ) : Type 0 where
  pub small : i < 65535
  pub is : stmt_at f t i e ≡ tree.parallel (head_at t i) (branches_at (f - 1) t (i + 1) e)

module _ {f : ℕ} {t : List ℕ} {i e : ℕ} (R : Paralleled f t i e) where
  pub parallel-good : Good (width_at t) (looks_at t) (stmt_at f t i e) → GoodEach (width_at t) (looks_at t) (branches_at (f - 1) t (i + 1) e)
  unfolding Good
  parallel-good g = rw R.is at g

  pub parallel-wide : activities_sum (branches_at (f - 1) t (i + 1) e) ≡ activities (stmt_at f t i e)
  unfolding activities
  parallel-wide = rw R.is

  module _ {old : List Entry} {o : Buffer} {b w m n : ℕ} (S : Stand t old o b w i m n) (r : Reads) where
    pub parallel-head : {l j : Buffer} {g : How} → m ≡ i → Comes (start (stmt_at f t i e) r) (start_seen (stmt_at f t i e) r) b l j g
        → Comes (resume (stmt_at f t i e) (window old b w) r) (resume_seen (stmt_at f t i e) (window old b w) r) b l j g
    unfolding resume resume_seen
    parallel-head h C = comes_as (rw (R.is, at_head S R.small h)) (rw (R.is, at_head S R.small h)) C

    pub parallel_in : {j : Buffer} {g h : How} → (m ≡ i → ⊥) → Joins b Finished 0 0 b (resume_each (branches_at (f - 1) t (i + 1) e) (window old b w) r) (resume_each_seen (branches_at (f - 1) t (i + 1) e) (window old b w) r) o j g
        → ((y : Run) (q : ℕ) (k : Buffer) → Holds y q k g → Holds (caught_run y) q k h) → Comes (resume (stmt_at f t i e) (window old b w) r) (resume_seen (stmt_at f t i e) (window old b w) r) b o j h
    unfolding resume resume_seen
    parallel_in u J p =
        comes_as (rw (R.is, not_head S R.small u)) (rw (R.is, not_head S R.small u))
        (comes_caught (joins-all S.free (placed (branches_at (f - 1) t (i + 1) e) (window old b w) r) J) p)

-- ---- a statement that starts: it has no parts, or it stands at its head

module _ (f : ℕ) (t : List ℕ) (i e : ℕ) (h : i < e) (fuel : 3 * (e - i) ≤ f + 1) (small : e ≤ 65535) {old : List Entry} {o : Buffer} {b w m n : ℕ} (S : Stand t old o b w i m n) (r : Reads) {l j : Buffer} {g : How} where
  pub starts : {c : Shape} → c ≡ resumed_as (eqb m i) (shape_of (what_at t i)) → c ≡ Plain → Comes (start (stmt_at f t i e) r) (start_seen (stmt_at f t i e) r) b l j g
      → Comes (resume (stmt_at f t i e) (window old b w) r) (resume_seen (stmt_at f t i e) (window old b w) r) b l j g
  starts ce q C = by (eqb m i) refl (shape_of (what_at t i)) refl (sym ce ∙ q)
    where
      tiny : i < 65535
      tiny = omega arith

      by : (p : Bool) → eqb m i ≡ p → (x : Shape) → shape_of (what_at t i) ≡ x → resumed_as (eqb m i) (shape_of (what_at t i)) ≡ Plain
          → Comes (resume (stmt_at f t i e) (window old b w) r) (resume_seen (stmt_at f t i e) (window old b w) r) b l j g
      by false u x v k = plain_is f t i e h fuel refl (rw u at k) (window old b w) r C
      by true u Plain v k = plain_is f t i e h fuel refl v (window old b w) r C
      by true u (Waiting d) v k = other (Waiting d) Plain (rw (u, v) at k) (λ z. omega arith)
      by true u (Either a) v k = either-head (eithered f t i e a (within a i e) h fuel refl v refl) small S r (eqb-true m i u) C
      by true u Repeat v k = repeat_head (record { small = tiny; is = repeat_is f t i e h fuel refl v }) S r (eqb-true m i u) C
      by true u Tests v k = switch_head (record { small = tiny; is = tests_is f t i e h fuel refl v }) S r (eqb-true m i u) C
      by true u Together v k = parallel-head (record { small = tiny; is = together_is f t i e h fuel refl v }) S r (eqb-true m i u) C
