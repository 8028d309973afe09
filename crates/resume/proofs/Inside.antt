-- One of the activities stands in a statement exactly when the least number is below its end.
use mathlib.Core.Path.{◌≡◌, refl, sym, ap, ◌∙◌}
use mathlib.Core.Bool.{Bool, true, false, cond}
use mathlib.Core.List.{List}
use Prim.Native.Nat.{ℕ, zero, suc, ◌+◌, ◌-◌, ◌*◌, ◌<◌, ◌≤◌}
use native.Mathlib.Omega.{arith}
use lib.Dec.{leb, ltb}
use borrow.Author.Tests.{le-ltb, ltb-true, ltb-false, leb-false}
use Rattle.meaning.specs.Clock.{Entry, some_at, inside, inside_all, inside_cases, inside_some}
use Rattle.nodes.specs.Layout.{what_at, among_of, shape_of, within, end_at, branch_end_at}
use Rattle.nodes.specs.Decode.{list_at, stmt_at, cases_at, branches_at}
use Rattle.nodes.specs.declared.Among.{Among}
use Rattle.nodes.specs.declared.Among.TheVariants as among
use Rattle.nodes.specs.declared.What.{What}
use Rattle.nodes.specs.declared.What.TheVariants.{Skip, Delay, Change, Assign, Choice, While, Loop, Exit, Break, Switch, Parallel, Case}
use Rattle.nodes.proofs.Laws.{within_more, within-most, end_more, end-most, branch_more, branch_most}
use Rattle.runs.specs.Run.{least}
use Rattle.nodes.specs.Ready.{is_leaf, Leaves}
use Rattle.resume.proofs.Least.{none_in, at_or_after, in_two}

within-next : (m i e : ℕ) → i < e → m ≤ i + 1 → within m i e ≡ i + 1
unfolding within
within-next m i e h k = by (leb m i) refl
  where
    by : (p : Bool) → leb m i ≡ p → cond (leb m i) (i + 1) (cond (ltb e m) e m) ≡ i + 1
    by true f = rw f
    by false f = rw (f, le-ltb e m (omega arith)) (omega (arith, leb-false m i f))

module _ (t : List ℕ) (lv : Leaves t) (es : List Entry) where
  -- a leaf ends at the next number
  pub leaf-end : (i e : ℕ) → i < e → is_leaf (shape_of (what_at t i)) ≡ true → end_at t i e ≡ i + 1
  unfolding end_at
  leaf-end i e h l = within-next _ i e h (lv.leaf i l)

  leaf_in : (i e : ℕ) → i < 65535 → e ≡ i + 1 → some_at i es ≡ ltb (least es i) e
  leaf_in i e h q = rw q (sym (at_or_after es i (i + 1) (omega arith) (omega arith) ∙ rw (none_in es (i + 1) (i + 1) (omega arith) (omega arith)) (same (some_at i es))))
    where
      same : (p : Bool) → cond p true false ≡ p
      same true = refl
      same false = refl

  record Insides (f : ℕ) : Type 0 where
    lists : (i e : ℕ) → e ≤ 65535 → i ≤ 65535 → 3 * (e - i) ≤ f → inside_all (list_at f t i e) es ≡ ltb (least es i) e
    stmts : (i e : ℕ) → e ≤ 65535 → i < e → 3 * (e - i) ≤ f + 1 → (is_leaf (shape_of (what_at t i)) ≡ true → e ≡ i + 1) → inside (stmt_at f t i e) es ≡ ltb (least es i) e
    cases : (i e : ℕ) → e ≤ 65535 → i ≤ 65535 → 3 * (e - i) < f → inside_cases (cases_at f t i e) es ≡ ltb (least es i) e
    somes : (i e : ℕ) → e ≤ 65535 → i ≤ 65535 → 3 * (e - i) < f → inside_some (branches_at f t i e) es ≡ ltb (least es i) e

  list_by : (f : ℕ) (I : Insides f) (i e : ℕ) → e ≤ 65535 → i ≤ 65535 → 3 * (e - i) ≤ suc f → (p : Bool) → ltb i e ≡ p → inside_all (list_at (suc f) t i e) es ≡ ltb (least es i) e
  unfolding inside list_at
  list_by f I i e s u k false p = rw p (sym (none_in es i e u (ltb-false i e p)))
  list_by f I i e s u k true p =
      let h : i < e = ltb-true i e p in
      let a : i < end_at t i e = end_more t i e h in
      let b : end_at t i e ≤ e = end-most t i e h in
      rw (p, I.stmts i (end_at t i e) (omega arith) a (omega arith) (leaf-end i e h), I.lists (end_at t i e) e s (omega arith) (omega arith))
      (sym (in_two es i e u (end_at t i e) (omega arith) b))

  stmt_by : (f : ℕ) (I : Insides f) (i e : ℕ) → e ≤ 65535 → i < e → 3 * (e - i) ≤ suc f + 1 → (w : What) → what_at t i ≡ w → (is_leaf (shape_of (what_at t i)) ≡ true → e ≡ i + 1) → inside (stmt_at (suc f) t i e) es ≡ ltb (least es i) e
  unfolding inside list_at
  stmt_by f I i e s h k Skip q l = rw q (leaf_in i e (omega arith) (l (rw q)))
  stmt_by f I i e s h k (Delay p n) q l = rw q (leaf_in i e (omega arith) (l (rw q)))
  stmt_by f I i e s h k (Change c v) q l = rw q (leaf_in i e (omega arith) (l (rw q)))
  stmt_by f I i e s h k (Assign v a) q l = rw q (leaf_in i e (omega arith) (l (rw q)))
  stmt_by f I i e s h k (Choice a m) q l =
      let x : i < within m i e = within_more m i e h in
      let y : within m i e ≤ e = within-most m i e h in
      rw (q, I.lists (i + 1) (within m i e) (omega arith) (omega arith) (omega arith), I.lists (within m i e) e s (omega arith) (omega arith))
      (sym (at_or_after es i e (omega arith) h ∙ ap (cond (some_at i es) true) (in_two es (i + 1) e (omega arith) (within m i e) (omega arith) y)))
  stmt_by f I i e s h k (While a) q l = rw (q, I.lists (i + 1) e s (omega arith) (omega arith)) (sym (at_or_after es i e (omega arith) h))
  stmt_by f I i e s h k Loop q l = rw (q, I.lists (i + 1) e s (omega arith) (omega arith)) (sym (at_or_after es i e (omega arith) h))
  stmt_by f I i e s h k Exit q l = rw q (leaf_in i e (omega arith) (l (rw q)))
  stmt_by f I i e s h k Break q l = rw q (leaf_in i e (omega arith) (l (rw q)))
  stmt_by f I i e s h k Switch q l = rw (q, I.cases (i + 1) e s (omega arith) (omega arith)) (sym (at_or_after es i e (omega arith) h))
  stmt_by f I i e s h k Parallel q l = rw (q, I.somes (i + 1) e s (omega arith) (omega arith)) (sym (at_or_after es i e (omega arith) h))
  stmt_by f I i e s h k (Case a m) q l = rw q (leaf_in i e (omega arith) (l (rw q)))

  cases_by : (f : ℕ) (I : Insides f) (i e : ℕ) → e ≤ 65535 → i ≤ 65535 → 3 * (e - i) < suc f → (p : Bool) → ltb i e ≡ p → (a : Among) → among_of (what_at t i) ≡ a → inside_cases (cases_at (suc f) t i e) es ≡ ltb (least es i) e
  unfolding inside list_at
  cases_by f I i e s u k false p a q = rw p (sym (none_in es i e u (ltb-false i e p)))
  cases_by f I i e s u k true p among.Default q = rw (p, q) (I.lists i e s u (omega arith))
  cases_by f I i e s u k true p (among.Test c m) q =
      let h : i < e = ltb-true i e p in
      let x : i < within m i e = within_more m i e h in
      let y : within m i e ≤ e = within-most m i e h in
      rw (p, q, I.lists (i + 1) (within m i e) (omega arith) (omega arith) (omega arith), I.cases (within m i e) e s (omega arith) (omega arith))
      (sym (at_or_after es i e (omega arith) h ∙ ap (cond (some_at i es) true) (in_two es (i + 1) e (omega arith) (within m i e) (omega arith) y)))

  some_by : (f : ℕ) (I : Insides f) (i e : ℕ) → e ≤ 65535 → i ≤ 65535 → 3 * (e - i) < suc f → (p : Bool) → ltb i e ≡ p → inside_some (branches_at (suc f) t i e) es ≡ ltb (least es i) e
  unfolding inside list_at
  some_by f I i e s u k false p = rw p (sym (none_in es i e u (ltb-false i e p)))
  some_by f I i e s u k true p =
      let h : i < e = ltb-true i e p in
      let a : i < branch_end_at t i e = branch_more t i e h in
      let b : branch_end_at t i e ≤ e = branch_most t i e h in
      rw (p, I.lists i (branch_end_at t i e) (omega arith) u (omega arith), I.somes (branch_end_at t i e) e s (omega arith) (omega arith))
      (sym (in_two es i e u (branch_end_at t i e) (omega arith) b))

  insides : (f : ℕ) → Insides f
  unfolding inside list_at
  insides zero =
      record {
        lists = λ i e s u k. sym (none_in es i e u (omega arith));
        stmts = λ i e s h k l. absurd (omega arith);
        cases = λ i e s u k. absurd (omega arith);
        somes = λ i e s u k. absurd (omega arith);
      }
  insides (suc f) =
      record {
        lists = λ i e s u k. list_by f (insides f) i e s u k (ltb i e) refl;
        stmts = λ i e s h k l. stmt_by f (insides f) i e s h k (what_at t i) refl l;
        cases = λ i e s u k. cases_by f (insides f) i e s u k (ltb i e) refl (among_of (what_at t i)) refl;
        somes = λ i e s u k. some_by f (insides f) i e s u k (ltb i e) refl;
      }

  pub inside-list : (f i e : ℕ) → e ≤ 65535 → i ≤ 65535 → 3 * (e - i) ≤ f → inside_all (list_at f t i e) es ≡ ltb (least es i) e
  inside-list f i e s u k = (insides f).lists i e s u k

  pub inside_stmt : (f i e : ℕ) → e ≤ 65535 → i < e → 3 * (e - i) ≤ f + 1 → (is_leaf (shape_of (what_at t i)) ≡ true → e ≡ i + 1) → inside (stmt_at f t i e) es ≡ ltb (least es i) e
  inside_stmt f i e s h k l = (insides f).stmts i e s h k l
