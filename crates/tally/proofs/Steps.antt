-- Every step of the count, and what the tally says behind it.
-- Assumes nothing.
use mathlib.Core.Bool.{Bool, true, false, cond}
use mathlib.Core.Path.{◌≡◌, refl, sym, ap, ap₂, ◌∙◌, subst}
use Prim.Native.Nat.{ℕ, suc, ◌+◌, ◌≤◌, ◌<◌, min, max}
use native.Mathlib.Omega.{arith}
use borrow.Author.Tests.{ltb-true, ltb-false, leb-true, leb-false, lt-ltb, le-ltb, le-leb, lt-leb}
use lib.Dec.{ltb, leb}
use lib.ListN.{length}
use Rattle.meaning.specs.Items.{within}
use Rattle.meaning.specs.Kinds.{both}
use Rattle.meaning.specs.Sizes.{most_statements, most_parts}
use Rattle.meaning.specs.States.{most_activities}
use Rattle.meaning.specs.Levels.{most_levels, levels_in}
use Rattle.meaning.specs.Unexpanded.{Term}
use Rattle.meaning.specs.Base.{base_term}
use Rattle.own_law.specs.Own.{Own, past, begun, closed, opened, if_large, own_term}
use Rattle.own_law.proofs.Borne.{made, bears, Sound}
use Rattle.own_law.proofs.Own.{term_adds}
use Rattle.own_law.proofs.Early.{Stays, begun_stays, closed_stays, opened_stays, large_stays, term_stays}
use Rattle.tally.specs.declared.Tally.{Tally}
use Rattle.tally.specs.Tally.{most_counted, tally_of, start_tally, full_tally, begun_tally, parted_tally, marked_tally, deep_tally, term_tally, acts_tally, summed_tally, together_tally}
use Rattle.tally.specs.Holds.{State, at_start, doing, with_acts, counts_of, every_of, Within, Holds}

no : {A : Type 0} → true ≡ false → A
no e = absurd (let z : ◌≡◌ {A = ℕ} 0 1 = cc in omega arith)

-- ---- what is over stays over

still : {k : ℕ} {m : Tally} {y : State} → m.passed ≡ true → y.counts.over ≡ true → Holds k m y
still p h = record { over = λ e. h; exact = λ e. no (sym p ∙ e) }

pub over_on : {f : Own → Own} → Stays f → (o : Own) → o.over ≡ true → (f o).over ≡ true
over_on stays o e = ap (λ (r : Own). r.over) (stays o e) ∙ e

-- ---- nothing is counted

pub start-holds : (n : ℕ) → n ≤ most_levels → Holds n start_tally (at_start n)
start-holds n h = record { over = λ e. no (sym e); exact = λ e. record { few = omega arith; small = omega arith; high = λ e. h; every = refl; counts = refl; acts = refl } }

-- ---- a statement

begun-below : (k a b c : ℕ) → ltb a most_statements ≡ true → begun (made a b k false) ≡ made (a + 1) b k false
unfolding begun
begun-below k a b c e = rw e refl

begun-past : (k a b : ℕ) → ltb a most_statements ≡ false → (begun (made a b k false)).over ≡ true
unfolding begun
begun-past k a b e = rw e refl

begun_over : begun past ≡ past
unfolding begun
begun_over = refl

pub begun-holds : {k : ℕ} {m : Tally} {x : State} → Holds k m x → Holds k (begun_tally m) (doing (λ v. begun) x)
unfolding begun_tally
begun-holds {k} {m} {x} h = by m.statements m.parts m.acts m.large m.passed h
  where
    every_on : (a b c : ℕ) (l : Bool) → ltb a most_statements ≡ true → begun (every_of k (tally_of a b c l false)) ≡ every_of k (tally_of (a + 1) b c l false)
    every_on a b c true e = begun_over
    every_on a b c false e = begun-below k a b c e

    go : (a b c : ℕ) (l t : Bool) → ltb a most_statements ≡ t → Within k (tally_of a b c l false) x
        → Holds k (cond t (tally_of (a + 1) b c l false) (full_tally (tally_of a b c l false))) (doing (λ v. begun) x)
    go a b c l true e w =
        record {
          over = λ q. no (sym q);
          exact = λ q. record { few = omega (arith, ltb-true a most_statements e); small = w.small; high = w.high; every = ap begun w.every ∙ every_on a b c l e; counts = ap begun w.counts ∙ begun-below k a b c e; acts = w.acts };
        }
    go a b c l false e w = still refl (ap (λ (o : Own). (begun o).over) w.counts ∙ begun-past k a b e)

    by : (a b c : ℕ) (l p : Bool) → Holds k (tally_of a b c l p) x → Holds k (begun_tally (tally_of a b c l p)) (doing (λ v. begun) x)
    by a b c l true h = still refl (over_on begun_stays x.counts (h.over refl))
    by a b c l false h = go a b c l (ltb a most_statements) refl (h.exact refl)

-- ---- a level

opened_over : (v : Bool) → opened v past ≡ past
unfolding opened
opened_over v = refl

closed_over : closed past ≡ past
unfolding closed
closed_over = refl

opened-counts : (a b k : ℕ) → opened false (made a b k false) ≡ made a b (k + 1) false
unfolding opened
opened-counts a b k = refl

opened-below : (a b k : ℕ) → ltb k most_levels ≡ true → opened true (made a b k false) ≡ made a b (k + 1) false
unfolding opened
opened-below a b k e = rw e refl

opened-past : (a b k : ℕ) → ltb k most_levels ≡ false → opened true (made a b k false) ≡ past
unfolding opened
opened-past a b k e = rw e refl

-- with n levels open in the tally: no more are told apart than one too many
pub opened-holds : {k n : ℕ} {m : Tally} {x : State} → n ≡ min (suc k) 33 → Holds k m x → Holds (suc k) (deep_tally m n 0) (doing opened x)
unfolding deep_tally marked_tally
opened-holds {k} {n} {m} {x} is h = by m.statements m.parts m.acts m.large m.passed h
  where
    one : k + 1 ≡ suc k
    one = omega arith

    counts_on : (a b c : ℕ) (l l₂ : Bool) → Within k (tally_of a b c l false) x → opened false x.counts ≡ counts_of (suc k) (tally_of a b c l₂ false)
    counts_on a b c l l₂ w = ap (opened false) w.counts ∙ opened-counts a b k ∙ ap (λ (j : ℕ). made a b j false) one

    go : (a b c : ℕ) (l t : Bool) → ltb most_levels (n + 0) ≡ t → Within k (tally_of a b c l false) x → Holds (suc k) (marked_tally (tally_of a b c l false) t) (doing opened x)
    go a b c true true e w =
        record { over = λ q. no (sym q); exact = λ q. record { few = w.few; small = w.small; high = λ z. no z; every = ap (opened true) w.every ∙ opened_over true; counts = counts_on a b c true true w; acts = w.acts } }
    go a b c true false e w =
        record { over = λ q. no (sym q); exact = λ q. record { few = w.few; small = w.small; high = λ z. no z; every = ap (opened true) w.every ∙ opened_over true; counts = counts_on a b c true true w; acts = w.acts } }
    go a b c false true e w =
        record {
          over = λ q. no (sym q);
          exact = λ q. record { few = w.few; small = w.small; high = λ z. no z; every = ap (opened true) w.every ∙ opened-past a b k (le-ltb k most_levels (omega (arith, is, ltb-true most_levels (n + 0) e))); counts = counts_on a b c false true w; acts = w.acts };
        }
    go a b c false false e w =
        let low : k < most_levels = omega (arith, is, ltb-false most_levels (n + 0) e) in
        record {
          over = λ q. no (sym q);
          exact = λ q. record { few = w.few; small = w.small; high = λ z. low; every = ap (opened true) w.every ∙ opened-below a b k (lt-ltb k most_levels low) ∙ ap (λ (j : ℕ). made a b j false) one; counts = counts_on a b c false false w; acts = w.acts };
        }

    gone : (a b c : ℕ) (l t : Bool) → x.counts.over ≡ true → Holds (suc k) (marked_tally (tally_of a b c l true) t) (doing opened x)
    gone a b c l true e = still refl (over_on (opened_stays false) x.counts e)
    gone a b c l false e = still refl (over_on (opened_stays false) x.counts e)

    by : (a b c : ℕ) (l p : Bool) → Holds k (tally_of a b c l p) x → Holds (suc k) (deep_tally (tally_of a b c l p) n 0) (doing opened x)
    by a b c l true h = gone a b c l (ltb most_levels (n + 0)) (h.over refl)
    by a b c l false h = go a b c l (ltb most_levels (n + 0)) refl (h.exact refl)

pub closed-holds : {k : ℕ} {m : Tally} {x : State} → Holds (suc k) m x → Holds k m (doing (λ v. closed) x)
unfolding closed
closed-holds {k} {m} {x} h =
    record {
      over = λ e. over_on closed_stays x.counts (h.over e);
      exact = λ e. let w = h.exact e in record { few = w.few; small = w.small; high = λ z. omega (arith, w.high z); every = ap closed w.every ∙ shut m.large; counts = ap closed w.counts ∙ shuts; acts = w.acts };
    }
  where
    shuts : closed (counts_of (suc k) m) ≡ counts_of k m
    shuts = ap (λ (j : ℕ). made m.statements m.parts j false) (omega arith)

    shut : (l : Bool) → closed (cond l past (counts_of (suc k) m)) ≡ cond l past (counts_of k m)
    shut true = closed_over
    shut false = shuts

-- ---- something too large

large_over : (v b : Bool) → if_large v b past ≡ past
unfolding if_large
large_over v b = refl

large-counts : (a b k : ℕ) (big : Bool) → if_large false big (made a b k false) ≡ made a b k false
unfolding if_large
large-counts a b k big = refl

large-every : (a b k : ℕ) (big : Bool) → if_large true big (made a b k false) ≡ cond big past (made a b k false)
unfolding if_large
large-every a b k big = refl

pub marked_holds : {k : ℕ} {m : Tally} {x : State} (big : Bool) → Holds k m x → Holds k (marked_tally m big) (doing (λ v. if_large v big) x)
unfolding marked_tally
marked_holds {k} {m} {x} big h = by m.statements m.parts m.acts m.large m.passed big h
  where
    every_on : (a b c : ℕ) (l big : Bool) → if_large true big (every_of k (tally_of a b c l false)) ≡ every_of k (marked_tally (tally_of a b c l false) big)
    every_on a b c true true = large_over true true
    every_on a b c true false = large_over true false
    every_on a b c false true = large-every a b k true
    every_on a b c false false = large-every a b k false

    go : (a b c : ℕ) (l big : Bool) → Within k (tally_of a b c l false) x → Holds k (marked_tally (tally_of a b c l false) big) (doing (λ v. if_large v big) x)
    go a b c l true w =
        record { over = λ q. no (sym q); exact = λ q. record { few = w.few; small = w.small; high = λ z. no z; every = ap (if_large true true) w.every ∙ every_on a b c l true; counts = ap (if_large false true) w.counts ∙ large-counts a b k true; acts = w.acts } }
    go a b c l false w =
        record { over = λ q. no (sym q); exact = λ q. record { few = w.few; small = w.small; high = w.high; every = ap (if_large true false) w.every ∙ every_on a b c l false; counts = ap (if_large false false) w.counts ∙ large-counts a b k false; acts = w.acts } }

    gone : (a b c : ℕ) (l big : Bool) → x.counts.over ≡ true → Holds k (marked_tally (tally_of a b c l true) big) (doing (λ v. if_large v big) x)
    gone a b c l true e = still refl (over_on (large_stays false true) x.counts e)
    gone a b c l false e = still refl (over_on (large_stays false false) x.counts e)

    by : (a b c : ℕ) (l p big : Bool) → Holds k (tally_of a b c l p) x → Holds k (marked_tally (tally_of a b c l p) big) (doing (λ v. if_large v big) x)
    by a b c l true big h = gone a b c l big (h.over refl)
    by a b c l false big h = go a b c l big (h.exact refl)

-- ---- an expression

sum-none : (n most : ℕ) → n ≤ most → leb (n + 0) most ≡ true
sum-none n most h = le-leb (n + 0) most (omega arith)

-- a tally's counts are sound
counts-sound : (a b k : ℕ) → a ≤ most_statements → b ≤ most_parts → Sound false (made a b k false)
unfolding bears
counts-sound a b k h g = rw (sum-none a most_statements h, sum-none b most_parts g) (ap₂ (λ (x y : ℕ). made x y k false) (omega arith) (omega arith))

every-sound : (a b k : ℕ) → a ≤ most_statements → b ≤ most_parts → k ≤ most_levels → Sound true (made a b k false)
unfolding bears
every-sound a b k h g i = rw (sum-none a most_statements h, sum-none b most_parts g, sum-none k most_levels i) (ap₂ (λ (x y : ℕ). made x y k false) (omega arith) (omega arith))

module _ (e : Term) where
  abbrev p : ℕ
  p = length (within (base_term e))

  counts_term : (a b k : ℕ) → a ≤ most_statements → b ≤ most_parts → own_term false e (made a b k false) ≡ cond (leb (b + p) most_parts) (made a (b + p) k false) past
  unfolding bears
  counts_term a b k h g =
      (term_adds false e).to (made a b k false) (counts-sound a b k h g)
      ∙ rw (sum-none a most_statements h) (by (leb (b + p) most_parts))
    where
      by : (t : Bool) → cond (both t true) (made (a + 0) (b + p) k false) past ≡ cond t (made a (b + p) k false) past
      by true = ap (λ (x : ℕ). made x (b + p) k false) (omega arith)
      by false = refl

  every_term : (a b k : ℕ) → a ≤ most_statements → b ≤ most_parts → k ≤ most_levels → own_term true e (made a b k false) ≡ cond (both (leb (b + p) most_parts) (leb (k + levels_in e) most_levels)) (made a (b + p) k false) past
  unfolding bears
  every_term a b k h g i =
      (term_adds true e).to (made a b k false) (every-sound a b k h g i)
      ∙ rw (sum-none a most_statements h) (by (leb (b + p) most_parts) (leb (k + levels_in e) most_levels))
    where
      by : (t u : Bool) → cond (both t (both u true)) (made (a + 0) (b + p) k false) past ≡ cond (both t u) (made a (b + p) k false) past
      by true true = ap (λ (x : ℕ). made x (b + p) k false) (omega arith)
      by true false = refl
      by false u = refl

  term_over : (v : Bool) → own_term v e past ≡ past
  term_over v = term_stays v e past refl

  -- its parts and levels are known no further than one too many
  pub term_holds : {k n q l : ℕ} {m : Tally} {x : State} → n ≡ min k 33 → q ≡ min p 1025 → l ≡ min (levels_in e) 33 → Holds k m x → Holds k (term_tally m n q l) (doing (λ v. own_term v e) x)
  unfolding term_tally deep_tally parted_tally marked_tally
  term_holds {k} {n} {q} {l} {m} {x} is parts levels h = by m.statements m.parts m.acts m.large m.passed h
    where
      after : State
      after = doing (λ v. own_term v e) x

      gone : (a b c : ℕ) (g t : Bool) → x.counts.over ≡ true → Holds k (marked_tally (tally_of a b c g true) t) after
      gone a b c g true z = still refl (over_on (term_stays false e) x.counts z)
      gone a b c g false z = still refl (over_on (term_stays false e) x.counts z)

      many : (a b c : ℕ) (g t : Bool) → leb (b + p) most_parts ≡ false → Within k (tally_of a b c g false) x → Holds k (marked_tally (tally_of a b c g true) t) after
      many a b c g true z w = still refl (ap (λ (o : Own). (own_term false e o).over) w.counts ∙ ap (λ (o : Own). o.over) (counts_term a b k w.few w.small ∙ ap (λ (f : Bool). cond f (made a (b + p) k false) past) z))
      many a b c g false z w = still refl (ap (λ (o : Own). (own_term false e o).over) w.counts ∙ ap (λ (o : Own). o.over) (counts_term a b k w.few w.small ∙ ap (λ (f : Bool). cond f (made a (b + p) k false) past) z))

      every_on : (a b c : ℕ) (g t : Bool) → ltb most_levels (n + l) ≡ t → b + p ≤ most_parts → Within k (tally_of a b c g false) x → own_term true e (every_of k (tally_of a b c g false)) ≡ every_of k (marked_tally (tally_of a (b + p) c g false) t)
      every_on a b c true true z s w = term_over true
      every_on a b c true false z s w = term_over true
      every_on a b c false true z s w =
          every_term a b k w.few w.small (w.high refl)
          ∙ ap₂ (λ (f g : Bool). cond (both f g) (made a (b + p) k false) past) (le-leb (b + p) most_parts s) (lt-leb (k + levels_in e) most_levels (omega (arith, is, levels, ltb-true most_levels (n + l) z)))
      every_on a b c false false z s w =
          every_term a b k w.few w.small (w.high refl)
          ∙ ap₂ (λ (f g : Bool). cond (both f g) (made a (b + p) k false) past) (le-leb (b + p) most_parts s) (le-leb (k + levels_in e) most_levels (omega (arith, is, levels, ltb-false most_levels (n + l) z)))

      fine : (a b c : ℕ) (g t : Bool) → ltb most_levels (n + l) ≡ t → b + p ≤ most_parts → Within k (tally_of a b c g false) x → Holds k (marked_tally (tally_of a (b + p) c g false) t) after
      fine a b c g true z s w =
          record {
            over = λ q. no (sym q);
            exact = λ q. record { few = w.few; small = s; high = λ z. no z; every = ap (own_term true e) w.every ∙ every_on a b c g true z s w; counts = ap (own_term false e) w.counts ∙ counts_term a b k w.few w.small ∙ ap (λ (f : Bool). cond f (made a (b + p) k false) past) (le-leb (b + p) most_parts s); acts = w.acts };
          }
      fine a b c g false z s w =
          record {
            over = λ q. no (sym q);
            exact = λ q. record { few = w.few; small = s; high = w.high; every = ap (own_term true e) w.every ∙ every_on a b c g false z s w; counts = ap (own_term false e) w.counts ∙ counts_term a b k w.few w.small ∙ ap (λ (f : Bool). cond f (made a (b + p) k false) past) (le-leb (b + p) most_parts s); acts = w.acts };
          }

      go : (a b c : ℕ) (g t : Bool) → leb (b + q) most_parts ≡ t → Within k (tally_of a b c g false) x → Holds k (marked_tally (cond t (tally_of a (b + q) c g false) (full_tally (tally_of a b c g false))) (ltb most_levels (n + l))) after
      go a b c g true z w =
          let s : b + q ≤ most_parts = leb-true (b + q) most_parts z in
          let same : p ≡ q = omega (arith, parts) in
          subst (λ (j : ℕ). Holds k (marked_tally (tally_of a (b + j) c g false) (ltb most_levels (n + l))) after) same (fine a b c g (ltb most_levels (n + l)) refl (omega (arith, parts)) w)
      go a b c g false z w = many a b c g (ltb most_levels (n + l)) (lt-leb (b + p) most_parts (omega (arith, parts, leb-false (b + q) most_parts z))) w

      by : (a b c : ℕ) (g r : Bool) → Holds k (tally_of a b c g r) x → Holds k (term_tally (tally_of a b c g r) n q l) after
      by a b c g true h = gone a b c g (ltb most_levels (n + l)) (h.over refl)
      by a b c g false h = go a b c g (leb (b + q) most_parts) refl (h.exact refl)

-- ---- activities

-- a branch is counted from one on
pub branch_starts : {k : ℕ} {m : Tally} {x : State} → Holds k m x → Holds k (acts_tally m 1) (with_acts x 1)
branch_starts h = record { over = h.over; exact = λ e. let w = h.exact e in record { few = w.few; small = w.small; high = w.high; every = w.every; counts = w.counts; acts = refl } }

-- .. and none stood before the first
pub branches_start : {k : ℕ} {m : Tally} {x : State} → Holds k m x → Holds k (acts_tally m 0) (with_acts x 0)
branches_start h = record { over = h.over; exact = λ e. let w = h.exact e in record { few = w.few; small = w.small; high = w.high; every = w.every; counts = w.counts; acts = refl } }

-- what is over is not exact
not_exact : {k : ℕ} {m r : Tally} {x y : State} → Holds k m x → Holds k r y → (x.counts.over ≡ true → y.counts.over ≡ true) → r.passed ≡ false → m.passed ≡ false
not_exact {k} {m} {r} {x} {y} h g on e = by m.passed refl
  where
    by : (b : Bool) → m.passed ≡ b → b ≡ false
    by true q = no (sym (on (h.over q)) ∙ ap (λ (o : Own). o.over) (g.exact e).counts)
    by false q = refl

-- it ends, and is added to those before it
pub branch_ends : {k : ℕ} {m r : Tally} {x y : State} → Holds k m x → Holds k r y → (x.counts.over ≡ true → y.counts.over ≡ true) → Holds k (summed_tally r m.acts) (with_acts y (x.acts + y.acts))
branch_ends {k} {m} {r} {x} {y} h g on =
    record {
      over = g.over;
      exact = λ e.
          let w = g.exact e in
          let v = h.exact (not_exact h g on e) in
          record { few = w.few; small = w.small; high = w.high; every = w.every; counts = w.counts; acts = omega (arith, w.acts, v.acts) };
    }

same_test : (n a : ℕ) → n ≡ min a most_counted → ltb most_activities n ≡ ltb most_activities a
same_test n a h = by (ltb most_activities a) refl
  where
    by : (b : Bool) → ltb most_activities a ≡ b → ltb most_activities n ≡ b
    by true e = lt-ltb most_activities n (omega (arith, h, ltb-true most_activities a e))
    by false e = le-ltb most_activities n (omega (arith, h, ltb-false most_activities a e))

-- Z8: a parallel ends
pub together-holds : {k : ℕ} {m r : Tally} {x y : State} → Holds k m x → Holds k r y → (x.counts.over ≡ true → y.counts.over ≡ true)
    → Holds k (together_tally r m.acts) (with_acts (doing (λ v. if_large v (ltb most_activities y.acts)) y) (max x.acts y.acts))
unfolding together_tally marked_tally
together-holds {k} {m} {r} {x} {y} h g on = by r.passed refl
  where
    largest : (a b n s : ℕ) → a ≡ min n most_counted → b ≡ min s most_counted → max a b ≡ min (max n s) most_counted
    largest a b n s e f = omega arith

    acts_of : (t : Bool) → (marked_tally r t).passed ≡ r.passed
    acts_of true = refl
    acts_of false = refl

    by : (b : Bool) → r.passed ≡ b → Holds k (together_tally r m.acts) (with_acts (doing (λ v. if_large v (ltb most_activities y.acts)) y) (max x.acts y.acts))
    by true q = still (acts_of (ltb most_activities r.acts) ∙ q) (over_on (large_stays false (ltb most_activities y.acts)) y.counts (g.over q))
    by false q =
        let w = g.exact q in
        let v = h.exact (not_exact h g on q) in
        let s = same_test r.acts y.acts w.acts in
        let z = subst (λ (b : Bool). Holds k (marked_tally r b) (doing (λ v. if_large v (ltb most_activities y.acts)) y)) (sym s) (marked_holds (ltb most_activities y.acts) g) in
        record {
          over = λ e. z.over e;
          exact = λ e. let u = z.exact e in record { few = u.few; small = u.small; high = u.high; every = u.every; counts = u.counts; acts = largest m.acts r.acts x.acts y.acts v.acts w.acts };
        }

-- ---- too many for certain

pub full_holds : {k : ℕ} (m : Tally) {x : State} → x.counts.over ≡ true → Holds k (full_tally m) x
full_holds m e = still refl e

-- nothing but the activities' order of counting moves
pub alike : {k : ℕ} {m : Tally} {x y : State} → x ≡ y → Holds k m x → Holds k m y
alike e h = rw e at h
