-- A note of 6 or 9 is the same before and after what is noted of statements; so is what is written behind the tree.
-- Assumes nothing.
use mathlib.Core.Path.{◌≡◌, refl, sym, ap, ap₂, ◌∙◌}
use mathlib.Core.Bool.{Bool, true, false, cond, not as opposite}
use mathlib.Core.List.{List}
use mathlib.Core.Option.{Option}
use Prim.Native.Nat.{ℕ, ◌+◌, ◌*◌, ◌/◌, ◌%◌, ◌<◌, min}
use native.Mathlib.Omega.{arith}
use borrow.Author.Tests.{ltb-true}
use lib.ListN.{length, set}
use Rattle.meaning.specs.Declared.{as_bit}
use Rattle.parts.specs.Beside.{tree_bytes}
use lib.Dec.{ltb, leb}
use Rattle.meaning.specs.Tree.{Name, Expr, literal, truth, variable, bit, not, int, arithmetic, comparison, logic, Change, Target, whole, part, Head, Stmt, skip, delay, change, assign, choice, while, loop, exit, break, switch, parallel, Stmts, end, ◌⨾◌, Cases, default, case, Branches, ◌∥◌}
use Rattle.meaning.specs.Tree as tree
use Rattle.meaning.specs.Numbers.{Variable}
use Rattle.meaning.specs.Names.{missing}
use Rattle.meaning.specs.Kinds.{has_bit, changeable}
use Rattle.meaning.specs.Sizes.{most_statements, most_parts, most_delay}
use Rattle.meaning.specs.States.{most_activities}
use Rattle.parts.specs.declared.Notes.{Notes}
use Rattle.items.specs.declared.Marks.{Marks}
use Rattle.parts.specs.Sum.{Sum, sum, at_six, at_seven, at_ten, counted, leaf_sum, around_sum, join_sum, put_part, part_at, group_at, order_at, kind_of, number_of, width_of, of_arithmetic, of_comparison, of_logic}
use Rattle.items.specs.Walk.{most_nodes, summed, end_for, set_half, put_node, put_branch, Walked, walked, Test, walk, walk_all, walk_cases, walk_each, at_nine, begun, cased, leaves, with_notes, with_acts, delayed, target_marks, assigned, tested, together, finished, branched, test_at, begun_at, change_at, assign_at, change_kind, fits}

-- what is done to an area that leaves its tree alone
pub record Apart (f : List ℕ → List ℕ) : Type 0 where
  pub long : (t : List ℕ) → length (f t) ≡ length t
  pub lets : (t : List ℕ) (o x : ℕ) → o < tree_bytes → f (set t o x) ≡ set (f t) o x

module _ {f : List ℕ → List ℕ} (apart : Apart f) where
  half_apart : (t : List ℕ) (o x : ℕ) → o + 1 < tree_bytes → f (set_half t o x) ≡ set_half (f t) o x
  unfolding set_half
  half_apart t o x h = apart.lets (set t o (x % 256)) (o + 1) (x / 256) h ∙ ap (λ (y : List ℕ). set y (o + 1) (x / 256)) (apart.lets t o (x % 256) (omega arith))

  node_apart : (t : List ℕ) (n k p e a b c d : ℕ) → f (put_node t n k p e a b c d) ≡ put_node (f t) n k p e a b c d
  unfolding put_node
  node_apart t n k p e a b c d = rw (apart.long t) (by (ltb n most_nodes) refl (leb (n * 16 + 16) (length t)))
    where
      six : List ℕ → List ℕ
      six y = set_half (set_half (set_half (set_half (set_half (set_half (set y (n * 16) k) (n * 16 + 2) p) (n * 16 + 4) e) (n * 16 + 8) a) (n * 16 + 10) b) (n * 16 + 12) c) (n * 16 + 14) d

      all : n < most_nodes → f (six t) ≡ six (f t)
      all h =
          half_apart _ (n * 16 + 14) d (omega arith)
          ∙ ap (λ (y : List ℕ). set_half y (n * 16 + 14) d) (half_apart _ (n * 16 + 12) c (omega arith)
          ∙ ap (λ (y : List ℕ). set_half y (n * 16 + 12) c) (half_apart _ (n * 16 + 10) b (omega arith)
          ∙ ap (λ (y : List ℕ). set_half y (n * 16 + 10) b) (half_apart _ (n * 16 + 8) a (omega arith)
          ∙ ap (λ (y : List ℕ). set_half y (n * 16 + 8) a) (half_apart _ (n * 16 + 4) e (omega arith)
          ∙ ap (λ (y : List ℕ). set_half y (n * 16 + 4) e) (half_apart _ (n * 16 + 2) p (omega arith)
          ∙ ap (λ (y : List ℕ). set_half y (n * 16 + 2) p) (apart.lets t (n * 16) k (omega arith)))))))

      by : (g : Bool) → ltb n most_nodes ≡ g → (h : Bool) → f (cond g (cond h (six t) t) t) ≡ cond g (cond h (six (f t)) (f t)) (f t)
      by true q true = all (ltb-true n most_nodes q)
      by true q false = refl
      by false q h = refl

  branch_apart : (t : List ℕ) (n a e : ℕ) → f (put_branch t n a e) ≡ put_branch (f t) n a e
  unfolding put_branch
  branch_apart t n a e = rw (apart.long t) (by (ltb n most_nodes) refl (leb (n * 16 + 16) (length t)))
    where
      by : (g : Bool) → ltb n most_nodes ≡ g → (h : Bool) → f (cond g (cond h (set_half (set t (n * 16 + 1) a) (n * 16 + 6) e) t) t) ≡ cond g (cond h (set_half (set (f t) (n * 16 + 1) a) (n * 16 + 6) e) (f t)) (f t)
      by true q true =
          let h = ltb-true n most_nodes q in
          half_apart (set t (n * 16 + 1) a) (n * 16 + 6) e (omega arith) ∙ ap (λ (y : List ℕ). set_half y (n * 16 + 6) e) (apart.lets t (n * 16 + 1) a (omega arith))
      by true q false = refl
      by false q h = refl

  part_apart : (t : List ℕ) (n k c p a b : ℕ) → f (put_part t n k c p a b) ≡ put_part (f t) n k c p a b
  unfolding put_part
  part_apart t n k c p a b = rw (apart.long t) (by (ltb n most_parts) refl (leb (part_at n + 8) (length t)))
    where
      eight : List ℕ → List ℕ
      eight y = set (set (set (set (set (set (set (set y (part_at n) k) (part_at n + 1) c) (part_at n + 2) (p % 256)) (part_at n + 3) (p / 256)) (part_at n + 4) (a % 256)) (part_at n + 5) (a / 256)) (part_at n + 6) (b % 256)) (part_at n + 7) (b / 256)

      all : n < most_parts → f (eight t) ≡ eight (f t)
      all h =
          apart.lets _ (part_at n + 7) (b / 256) (omega arith)
          ∙ ap (λ (y : List ℕ). set y (part_at n + 7) (b / 256)) (apart.lets _ (part_at n + 6) (b % 256) (omega arith)
          ∙ ap (λ (y : List ℕ). set y (part_at n + 6) (b % 256)) (apart.lets _ (part_at n + 5) (a / 256) (omega arith)
          ∙ ap (λ (y : List ℕ). set y (part_at n + 5) (a / 256)) (apart.lets _ (part_at n + 4) (a % 256) (omega arith)
          ∙ ap (λ (y : List ℕ). set y (part_at n + 4) (a % 256)) (apart.lets _ (part_at n + 3) (p / 256) (omega arith)
          ∙ ap (λ (y : List ℕ). set y (part_at n + 3) (p / 256)) (apart.lets _ (part_at n + 2) (p % 256) (omega arith)
          ∙ ap (λ (y : List ℕ). set y (part_at n + 2) (p % 256)) (apart.lets _ (part_at n + 1) c (omega arith)
          ∙ ap (λ (y : List ℕ). set y (part_at n + 1) c) (apart.lets t (part_at n) k (omega arith))))))))

      by : (g : Bool) → ltb n most_parts ≡ g → (h : Bool) → f (cond g (cond h (eight t) t) t) ≡ cond g (cond h (eight (f t)) (f t)) (f t)
      by true q true = all (ltb-true n most_parts q)
      by true q false = refl
      by false q h = refl

-- i is done to the least place of 6, j to that of 9, f to the area
module _ (i j : ℕ → ℕ) (i-least : (x p : ℕ) → i (min x p) ≡ min (i x) p) (j-least : (x p : ℕ) → j (min x p) ≡ min (j x) p) (f : List ℕ → List ℕ) (apart : Apart f) where
  abbrev pub touch : Notes → Notes
  touch n = record { six = i n.six; seven = n.seven; nine = j n.nine; ten = n.ten; parts = n.parts }

  abbrev pub touch_sum : Sum → Sum
  touch_sum x = record { notes = touch x.notes; root = x.root; truth = x.truth; size = x.size; looks = x.looks; bytes = f x.bytes }

  six_touch : (n : Notes) (on : Bool) (p : ℕ) → at_six (touch n) on p ≡ touch (at_six n on p)
  unfolding at_six
  six_touch n true p = ap (λ (x : ℕ). record { six = x; seven = n.seven; nine = j n.nine; ten = n.ten; parts = n.parts }) (sym (i-least n.six p))
  six_touch n false p = refl

  nine_touch : (n : Notes) (p : ℕ) → at_nine (touch n) p ≡ touch (at_nine n p)
  unfolding at_nine
  nine_touch n p = ap (λ (x : ℕ). record { six = i n.six; seven = n.seven; nine = x; ten = n.ten; parts = n.parts }) (sym (j-least n.nine p))

  counted_touch : (n : Notes) (p : ℕ) → counted (touch n) p ≡ touch (counted n p)
  unfolding counted
  counted_touch n p = by (ltb n.parts most_parts)
    where
      by : (b : Bool) → record { six = i n.six; seven = n.seven; nine = cond b (j n.nine) (min (j n.nine) p); ten = n.ten; parts = cond b (n.parts + 1) n.parts } ≡ touch (record { six = n.six; seven = n.seven; nine = cond b n.nine (min n.nine p); ten = n.ten; parts = cond b (n.parts + 1) n.parts })
      by true = refl
      by false = ap (λ (x : ℕ). record { six = i n.six; seven = n.seven; nine = x; ten = n.ten; parts = n.parts }) (sym (j-least n.nine p))

  abbrev with_n : Sum → Notes → List ℕ → Sum
  with_n x c z = record { notes = c; root = x.root; truth = x.truth; size = x.size; looks = x.looks; bytes = z }

  abbrev pub touch_marks : Marks → Marks
  touch_marks m = record { notes = touch m.notes; eight = m.eight; statements = m.statements; nodes = m.nodes; acts = m.acts }

  abbrev pub touched : Walked → Walked
  touched w = walked (touch_marks w.marks) (f w.bytes)

  abbrev pub touch_test : Test → Test
  touch_test t = record { state = touched t.state; root = t.root; looks = t.looks }

  begun_touch : (m : Marks) (p : ℕ) → begun (touch_marks m) p ≡ touch_marks (begun m p)
  unfolding begun
  begun_touch m p = ap (λ (n : Notes). record { notes = n; eight = m.eight; statements = (begun m p).statements; nodes = (begun m p).nodes; acts = m.acts }) (by (ltb m.statements most_statements))
    where
      by : (b : Bool) → cond b (touch m.notes) (at_nine (touch m.notes) p) ≡ touch (cond b m.notes (at_nine m.notes p))
      by true = refl
      by false = nine_touch m.notes p

  nines : (b : Bool) (m : Marks) (p : ℕ) → cond b (touch_marks m) (with_notes (touch_marks m) (at_nine (touch m.notes) p)) ≡ touch_marks (cond b m (with_notes m (at_nine m.notes p)))
  unfolding with_notes
  nines true m p = refl
  nines false m p = ap (with_notes (touch_marks m)) (nine_touch m.notes p)

  delayed_touch : (m : Marks) (n p : ℕ) → delayed (touch_marks m) n p ≡ touch_marks (delayed m n p)
  unfolding delayed
  delayed_touch m n p = nines (leb n most_delay) m p

  pub together_touch : (m : Marks) (acts p : ℕ) → together (touch_marks m) acts p ≡ touch_marks (together m acts p)
  unfolding together with_acts
  together_touch m acts p = ap (λ (k : Marks). with_acts k (together m acts p).acts) (nines (leb m.acts most_activities) m p)

  target_touch : (m : Marks) (o : Option Variable) (q : ℕ) (fine : Bool) (p : ℕ) → target_marks (touch_marks m) o q fine p ≡ touch_marks (target_marks m o q fine p)
  unfolding target_marks with_notes at_seven
  target_touch m o q fine p = ap (λ (n : Notes). with_notes m (at_seven n (opposite fine) p)) (six_touch m.notes (missing o) q)

  module _ (look : List ℕ → Option Variable) where
    around_touch : (n : Notes) (x : Sum) (k p : ℕ) (b : Bool) (z : ℕ) → around_sum (touch n) (touch_sum x) k p b z ≡ touch_sum (around_sum n x k p b z)
    unfolding around_sum at_seven
    around_touch n x k p b z = ap (with_n (touch_sum (around_sum n x k p b z)) (touch (at_seven x.notes (opposite x.truth) p))) (sym (part_apart apart x.bytes n.parts k 0 p x.root 0))

    join_touch : (k p : ℕ) (a b : Sum) → join_sum k p (touch_sum a) (touch_sum b) ≡ touch_sum (join_sum k p a b)
    unfolding join_sum at_seven at_ten
    join_touch k p a b = ap (with_n (touch_sum (join_sum k p a b)) (touch (join_sum k p a b).notes)) (sym (part_apart apart b.bytes a.notes.parts (group_at k) (order_at k) p a.root b.root))

    between_touch : (k p : ℕ) (a : Sum) (b : Expr Name) (x : Sum) → x ≡ touch_sum a → ((n : Notes) (t : List ℕ) → sum look b (touch n) (f t) ≡ touch_sum (sum look b n t))
        → join_sum k p x (sum look b (counted x.notes p) x.bytes) ≡ touch_sum (join_sum k p a (sum look b (counted a.notes p) a.bytes))
    between_touch k p a b x e g =
        ap (λ (y : Sum). join_sum k p y (sum look b (counted y.notes p) y.bytes)) e
        ∙ ap (λ (c : Notes). join_sum k p (touch_sum a) (sum look b c (f a.bytes))) (counted_touch a.notes p)
        ∙ ap (join_sum k p (touch_sum a)) (g (counted a.notes p) a.bytes) ∙ join_touch k p a (sum look b (counted a.notes p) a.bytes)

    sum_touch : (e : Expr Name) (s : Notes) (t : List ℕ) → sum look e (touch s) (f t) ≡ touch_sum (sum look e s t)
    unfolding sum leaf_sum at_seven
    sum_touch (literal p n) s t = ap₂ (with_n (sum look (literal p n) s t)) (counted_touch s p) (sym (part_apart apart t s.parts 0 0 p n 0))
    sum_touch (truth p b) s t = ap₂ (with_n (sum look (truth p b) s t)) (counted_touch s p) (sym (part_apart apart t s.parts (as_bit b + 1) 0 p 0 0))
    sum_touch (variable v) s t = ap₂ (with_n (sum look (variable v) s t)) (ap (λ (c : Notes). at_six c (missing (look v.bytes)) v.place) (counted_touch s v.place) ∙ six_touch (counted s v.place) (missing (look v.bytes)) v.place) (sym (part_apart apart t s.parts (kind_of (look v.bytes)) (width_of (look v.bytes) % 256) v.place (number_of (look v.bytes)) 0))
    sum_touch (bit v k) s t = ap₂ (λ (c : Notes). with_n (sum look (bit v k) s t) (at_seven c (opposite (has_bit (look v.bytes) k)) v.place)) (ap (λ (c : Notes). at_six c (missing (look v.bytes)) v.place) (counted_touch s v.place) ∙ six_touch (counted s v.place) (missing (look v.bytes)) v.place) (sym (part_apart apart t s.parts 6 (width_of (look v.bytes) % 256) v.place (number_of (look v.bytes)) k))
    sum_touch (not p e) s t = ap (λ (c : Notes). around_sum (touch s) (sum look e c (f t)) 7 p true 0) (counted_touch s p) ∙ ap (λ (x : Sum). around_sum (touch s) x 7 p true 0) (sum_touch e (counted s p) t) ∙ around_touch s (sum look e (counted s p) t) 7 p true 0
    sum_touch (int p e) s t = ap (λ (c : Notes). around_sum (touch s) (sum look e c (f t)) 8 p false 1) (counted_touch s p) ∙ ap (λ (x : Sum). around_sum (touch s) x 8 p false 1) (sum_touch e (counted s p) t) ∙ around_touch s (sum look e (counted s p) t) 8 p false 1
    sum_touch (arithmetic o p a b) s t = between_touch (of_arithmetic o) p (sum look a s t) b (sum look a (touch s) (f t)) (sum_touch a s t) (sum_touch b)
    sum_touch (comparison o p a b) s t = between_touch (of_comparison o) p (sum look a s t) b (sum look a (touch s) (f t)) (sum_touch a s t) (sum_touch b)
    sum_touch (logic o p a b) s t = between_touch (of_logic o) p (sum look a s t) b (sum look a (touch s) (f t)) (sum_touch a s t) (sum_touch b)

    test_touch : (e : Expr Name) (p : ℕ) (w : Walked) → test_at look e p (touched w) ≡ touch_test (test_at look e p w)
    unfolding test_at tested with_notes at_seven
    test_touch e p w = ap (λ (x : Sum). record { state = walked (tested (touch_marks w.marks) x p) x.bytes; root = x.root; looks = x.looks }) (sum_touch e w.marks.notes w.bytes)

    begun-test : (e : Expr Name) (p : ℕ) (w : Walked) → test_at look e p (begun_at look p (touched w)) ≡ touch_test (test_at look e p (begun_at look p w))
    begun-test e p w = ap (λ (m : Marks). test_at look e p (walked m (f w.bytes))) (begun_touch w.marks p) ∙ test_touch e p (begun_at look p w)

    fin_touch : (n k p a b c d : ℕ) (w : Walked) → finished n k p a b c d (touched w) ≡ touched (finished n k p a b c d w)
    unfolding finished
    fin_touch n k p a b c d w = ap (walked (touch_marks w.marks)) (sym (node_apart apart w.bytes n k p (end_for k w.marks.nodes) a b c d))

    branched_touch : (m : Marks) (w : Walked) → branched (touch_marks m) (touched w) ≡ touched (branched m w)
    unfolding branched with_acts
    branched_touch m w = ap (walked (touch_marks (with_acts w.marks (summed m.acts w.marks.acts)))) (sym (branch_apart apart w.bytes m.nodes w.marks.acts w.marks.nodes))

    change_touch : (h : Head) (c : Change) (x : Target Name) (w : Walked) → change_at look h c x (touched w) ≡ touched (change_at look h c x w)
    unfolding change_at
    change_touch h c (whole v) w =
        ap (λ (m : Marks). finished w.marks.nodes (change_kind c) h.place (number_of (look v.bytes)) (width_of (look v.bytes)) 0 0 (walked m (f w.bytes)))
        (ap (λ (m : Marks). target_marks m (look v.bytes) v.place (changeable (look v.bytes)) h.place) (begun_touch w.marks h.place) ∙ target_touch (begun w.marks h.place) (look v.bytes) v.place (changeable (look v.bytes)) h.place)
        ∙ fin_touch w.marks.nodes (change_kind c) h.place (number_of (look v.bytes)) (width_of (look v.bytes)) 0 0 (walked (target_marks (begun w.marks h.place) (look v.bytes) v.place (changeable (look v.bytes)) h.place) w.bytes)
    change_touch h c (part v k) w =
        ap (λ (m : Marks). finished w.marks.nodes (change_kind c) h.place (number_of (look v.bytes)) (width_of (look v.bytes)) k 0 (walked m (f w.bytes)))
        (ap (λ (m : Marks). target_marks m (look v.bytes) v.place (has_bit (look v.bytes) k) v.place) (begun_touch w.marks h.place) ∙ target_touch (begun w.marks h.place) (look v.bytes) v.place (has_bit (look v.bytes) k) v.place)
        ∙ fin_touch w.marks.nodes (change_kind c) h.place (number_of (look v.bytes)) (width_of (look v.bytes)) k 0 (walked (target_marks (begun w.marks h.place) (look v.bytes) v.place (has_bit (look v.bytes) k) v.place) w.bytes)

    assign_touch : (h : Head) (v : Name) (m : Marks) (x : Sum) (n : ℕ) → assign_at look h v (touch_marks m) (touch_sum x) n ≡ touched (assign_at look h v m x n)
    unfolding assign_at assigned with_notes
    assign_touch h v m x n =
        ap (λ (k : Marks). finished n 5 h.place (number_of (look v.bytes)) (width_of (look v.bytes)) x.looks x.root (walked k (f x.bytes)))
        (target_touch (with_notes m x.notes) (look v.bytes) v.place (fits (look v.bytes) x.truth) v.place)
        ∙ fin_touch n 5 h.place (number_of (look v.bytes)) (width_of (look v.bytes)) x.looks x.root (walked (target_marks (with_notes m x.notes) (look v.bytes) v.place (fits (look v.bytes) x.truth) v.place) x.bytes)

    mutual
      unfolding walk with_acts leaves cased

      pub walk_touch : (v : Stmt Name) (l b : Bool) (w : Walked) → walk look v l b (touched w) ≡ touched (walk look v l b w)
      walk_touch (skip h) l b w = ap (λ (m : Marks). finished w.marks.nodes 0 h.place 0 0 0 0 (walked m (f w.bytes))) (begun_touch w.marks h.place) ∙ fin_touch w.marks.nodes 0 h.place 0 0 0 0 (begun_at look h.place w)
      walk_touch (delay h p n) l b w =
          ap (λ (m : Marks). finished w.marks.nodes 1 h.place p n 0 0 (walked m (f w.bytes))) (ap (λ (m : Marks). delayed m n p) (begun_touch w.marks h.place) ∙ delayed_touch (begun w.marks h.place) n p)
          ∙ fin_touch w.marks.nodes 1 h.place p n 0 0 (walked (delayed (begun w.marks h.place) n p) w.bytes)
      walk_touch (change h c x) l b w = change_touch h c x w
      walk_touch (assign h v e) l b w =
          ap (λ (m : Marks). assign_at look h v m (sum look e m.notes (f w.bytes)) w.marks.nodes) (begun_touch w.marks h.place)
          ∙ ap (λ (x : Sum). assign_at look h v (touch_marks (begun w.marks h.place)) x w.marks.nodes) (sum_touch e (begun w.marks h.place).notes w.bytes)
          ∙ assign_touch h v (begun w.marks h.place) (sum look e (begun w.marks h.place).notes w.bytes) w.marks.nodes
      walk_touch (choice h e x y) l b w =
          let t = test_at look e h.place (begun_at look h.place w) in
          let u = walk_all look x l b t.state in
          ap (λ (u : Test). finished w.marks.nodes 6 h.place u.root (walk_all look x l b u.state).marks.nodes u.looks 0 (walk_all look y l b (walk_all look x l b u.state))) (begun-test e h.place w)
          ∙ ap (λ (u : Walked). finished w.marks.nodes 6 h.place t.root u.marks.nodes t.looks 0 (walk_all look y l b u)) (all_touch x l b t.state)
          ∙ ap (finished w.marks.nodes 6 h.place t.root u.marks.nodes t.looks 0) (all_touch y l b u)
          ∙ fin_touch w.marks.nodes 6 h.place t.root u.marks.nodes t.looks 0 (walk_all look y l b u)
      walk_touch (while h e x) l b w =
          let t = test_at look e h.place (begun_at look h.place w) in
          ap (λ (u : Test). finished w.marks.nodes 7 h.place u.root 0 u.looks 0 (walk_all look x true b u.state)) (begun-test e h.place w)
          ∙ ap (finished w.marks.nodes 7 h.place t.root 0 t.looks 0) (all_touch x true b t.state)
          ∙ fin_touch w.marks.nodes 7 h.place t.root 0 t.looks 0 (walk_all look x true b t.state)
      walk_touch (loop h x) l b w =
          ap (λ (m : Marks). finished w.marks.nodes 8 h.place 0 0 0 0 (walk_all look x true b (walked m (f w.bytes)))) (begun_touch w.marks h.place)
          ∙ ap (finished w.marks.nodes 8 h.place 0 0 0 0) (all_touch x true b (begun_at look h.place w))
          ∙ fin_touch w.marks.nodes 8 h.place 0 0 0 0 (walk_all look x true b (begun_at look h.place w))
      walk_touch (exit h) l b w =
          ap (λ (m : Marks). finished w.marks.nodes 9 h.place 0 0 0 0 (walked (leaves m l h.place) (f w.bytes))) (begun_touch w.marks h.place)
          ∙ fin_touch w.marks.nodes 9 h.place 0 0 0 0 (walked (leaves (begun w.marks h.place) l h.place) w.bytes)
      walk_touch (break h) l b w =
          ap (λ (m : Marks). finished w.marks.nodes 10 h.place 0 0 0 0 (walked (leaves m b h.place) (f w.bytes))) (begun_touch w.marks h.place)
          ∙ fin_touch w.marks.nodes 10 h.place 0 0 0 0 (walked (leaves (begun w.marks h.place) b h.place) w.bytes)
      walk_touch (switch h cs) l b w =
          ap (λ (m : Marks). finished w.marks.nodes 11 h.place 0 0 0 0 (walk_cases look cs l true (walked m (f w.bytes)))) (begun_touch w.marks h.place)
          ∙ ap (finished w.marks.nodes 11 h.place 0 0 0 0) (cases_touch cs l true (begun_at look h.place w))
          ∙ fin_touch w.marks.nodes 11 h.place 0 0 0 0 (walk_cases look cs l true (begun_at look h.place w))
      walk_touch (parallel h bs) l b w =
          let u = walked (with_acts (begun w.marks h.place) 0) w.bytes in
          ap (λ (m : Marks). finished w.marks.nodes 12 h.place 0 0 0 0 (walked (together (walk_each look bs l (walked (with_acts m 0) (f w.bytes))).marks w.marks.acts h.place) (walk_each look bs l (walked (with_acts m 0) (f w.bytes))).bytes)) (begun_touch w.marks h.place)
          ∙ ap (λ (r : Walked). finished w.marks.nodes 12 h.place 0 0 0 0 (walked (together r.marks w.marks.acts h.place) r.bytes)) (each_touch bs l u)
          ∙ ap (λ (m : Marks). finished w.marks.nodes 12 h.place 0 0 0 0 (walked m (f (walk_each look bs l u).bytes))) (together_touch (walk_each look bs l u).marks w.marks.acts h.place)
          ∙ fin_touch w.marks.nodes 12 h.place 0 0 0 0 (walked (together (walk_each look bs l u).marks w.marks.acts h.place) (walk_each look bs l u).bytes)

      pub all_touch : (v : Stmts Name) (l b : Bool) (w : Walked) → walk_all look v l b (touched w) ≡ touched (walk_all look v l b w)
      all_touch end l b w = refl
      all_touch (x ⨾ ss) l b w = ap (walk_all look ss l b) (walk_touch x l b w) ∙ all_touch ss l b (walk look x l b w)

      pub cases_touch : (v : Cases Name) (l b : Bool) (w : Walked) → walk_cases look v l b (touched w) ≡ touched (walk_cases look v l b w)
      cases_touch (default d) l b w = all_touch d l b w
      cases_touch (case h e x cs) l b w =
          let t = test_at look e h.place (walked (cased w.marks) w.bytes) in
          let u = walk_all look x l b t.state in
          ap (λ (u : Test). walk_cases look cs l b (finished w.marks.nodes 13 h.place u.root (walk_all look x l b u.state).marks.nodes u.looks 0 (walk_all look x l b u.state))) (test_touch e h.place (walked (cased w.marks) w.bytes))
          ∙ ap (λ (r : Walked). walk_cases look cs l b (finished w.marks.nodes 13 h.place t.root r.marks.nodes t.looks 0 r)) (all_touch x l b t.state)
          ∙ ap (walk_cases look cs l b) (fin_touch w.marks.nodes 13 h.place t.root u.marks.nodes t.looks 0 u)
          ∙ cases_touch cs l b (finished w.marks.nodes 13 h.place t.root u.marks.nodes t.looks 0 u)

      pub each_touch : (v : Branches Name) (l : Bool) (w : Walked) → walk_each look v l (touched w) ≡ touched (walk_each look v l w)
      each_touch tree.none l w = refl
      each_touch (x ∥ bs) l w =
          let u = walk_all look x l true (walked (with_acts w.marks 1) w.bytes) in
          ap (λ (r : Walked). walk_each look bs l (branched (touch_marks w.marks) r)) (all_touch x l true (walked (with_acts w.marks 1) w.bytes))
          ∙ ap (walk_each look bs l) (branched_touch w.marks u)
          ∙ each_touch bs l (branched w.marks u)
