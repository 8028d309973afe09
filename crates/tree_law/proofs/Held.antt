-- What stored nodes decode to, one level: the statement, that the clock can run it, and that its nodes with no parts end at the next number.
-- Assumes nothing.
use mathlib.Core.Bool.{Bool, true, false, cond}
use mathlib.Core.Path.{◌≡◌, refl, sym, ◌∙◌, ap, subst}
use mathlib.Core.List.{List}
use Prim.Native.Nat.{ℕ, zero, suc, ◌+◌, ◌-◌, ◌*◌, ◌%◌, ◌≤◌, ◌<◌}
use native.Mathlib.Omega.{arith}
use native.Mathlib.Decide.{dec_le}
use lib.Dec.{ltb}
use lib.ListN.{get_or}
use borrow.Author.Tests.{lt-ltb, le-ltb, lt-leb, ltb-true}
use Rattle.meaning.specs.Tree.{Expr, Head, Change, raise, lower, invert, Target, Stmt, Stmts, end, ◌⨾◌, Cases, default, case, Branches, ◌∥◌}
use Rattle.meaning.specs.Tree as tree
use Rattle.meaning.specs.Numbers.{Variable, integer}
use Rattle.meaning.specs.Tries.{bit_at}
use Rattle.meaning.specs.Clock.{activities_all}
use Rattle.nodes.specs.Layout.{half_at, node_base, what_of, what_at, among_of, shape_of, width_at, looks_at, within, end_at, branch_end_at}
use Rattle.nodes.specs.Decode.{expr_at, most_deep, head_at, target_by, stmt_of, list_at, stmt_at, cases_at, branches_at}
use Rattle.nodes.specs.Looks.{looks}
use Rattle.nodes.specs.Good.{GoodTest, GoodAssign, Good, GoodAll, GoodCases, GoodEach, first_number}
use Rattle.nodes.specs.Ready.{is_leaf}
use Rattle.nodes.specs.declared.Among.TheVariants.{Default}
use Rattle.nodes.specs.declared.What.{What}
use Rattle.nodes.specs.declared.What.TheVariants.{Case}
use Rattle.items.specs.Walk.{change_kind}
use Rattle.tree_law.proofs.Node.{Holds}

base : (i : ℕ) → i < 512 → node_base i ≡ i * 16
base i h = omega arith

within_is : (m i e : ℕ) → i < m → m ≤ e → within m i e ≡ m
unfolding within
within_is m i e h k = rw (lt-leb m i h, le-ltb e m k) refl

abbrev pub head_is : ℕ → ℕ → Head
head_is p i = record { place = p; number = i }

module _ {u : List ℕ} {i k p e a b c d : ℕ} (n : Holds u i k p e a b c d) (r : i < 512) where
  what_is : what_at u i ≡ what_of k a b c d
  unfolding what_at
  what_is = rw (base i r, n.kind, n.first, n.second, n.third, n.fourth) refl

  head_is_lem : head_at u i ≡ head_is p i
  head_is_lem = rw (base i r, n.place) refl

  looks-held : looks_at u i ≡ c % 256
  unfolding looks_at
  looks-held = rw (base i r) n.inputs

  ends_held : half_at u (node_base i + 4) ≡ e
  ends_held = rw (base i r) n.ends

abbrev pub Leaf : List ℕ → ℕ → Type 0
Leaf u j = is_leaf (shape_of (what_at u j)) ≡ true → half_at u (node_base j + 4) ≤ j + 1

abbrev LeavesIn : List ℕ → ℕ → ℕ → Type 0
LeavesIn u i e = (j : ℕ) → i ≤ j → j < e → Leaf u j

pub record HeldStmt (u : List ℕ) (x : Stmt Variable) (i e : ℕ) : Type 0 where
  pub reads : (f : ℕ) → 3 * (e - i) ≤ f + 1 → x ≡ stmt_at f u i e
  pub good : Good (width_at u) (looks_at u) x
  pub plain : among_of (what_at u i) ≡ Default
  pub ends : half_at u (node_base i + 4) ≡ e
  pub leaves : LeavesIn u i e

pub record HeldList (u : List ℕ) (x : Stmts Variable) (i e : ℕ) : Type 0 where
  pub reads : (f : ℕ) → 3 * (e - i) ≤ f → x ≡ list_at f u i e
  pub good : GoodAll (width_at u) (looks_at u) x
  pub plain : i < e → among_of (what_at u i) ≡ Default
  pub leaves : LeavesIn u i e

pub record HeldCases (u : List ℕ) (x : Cases Variable) (i e : ℕ) : Type 0 where
  pub reads : (f : ℕ) → 3 * (e - i) < f → x ≡ cases_at f u i e
  pub good : GoodCases (width_at u) (looks_at u) x
  pub leaves : LeavesIn u i e

pub record HeldEach (u : List ℕ) (x : Branches Variable) (i e : ℕ) : Type 0 where
  pub reads : (f : ℕ) → 3 * (e - i) < f → x ≡ branches_at f u i e
  pub good : GoodEach (width_at u) (looks_at u) x
  pub leaves : LeavesIn u i e

impossible : false ≡ true → ⊥
impossible q = let z : ◌≡◌ {A = ℕ} 0 1 = ap (λ (b : Bool). cond b 1 0) q in omega arith

-- ---- nodes with no parts, over ranges

leaves-both : (u : List ℕ) (i m e : ℕ) → LeavesIn u i m → LeavesIn u m e → LeavesIn u i e
leaves-both u i m e f g j h k = go (dec_le m j)
  where
    go : Dec (m ≤ j) → Leaf u j
    go (yes z) = g j z k
    go (no z) = f j h (omega arith)

leaves-first : (u : List ℕ) (i e : ℕ) → Leaf u i → LeavesIn u (i + 1) e → LeavesIn u i e
leaves-first u i e f g j h k = go (dec_le (i + 1) j)
  where
    go : Dec (i + 1 ≤ j) → Leaf u j
    go (yes z) = g j z k
    go (no z) = let q : i ≡ j = omega arith in subst (Leaf u) q f

-- a node of a known kind
leaf_at : (u : List ℕ) (i e : ℕ) (w : What) → what_at u i ≡ w → half_at u (node_base i + 4) ≡ e → (is_leaf (shape_of w) ≡ true → e ≤ i + 1) → Leaf u i
leaf_at u i e w q n f z = rw n (f (rw (← q) z))

-- ---- statements

module _ {u : List ℕ} {i k p e a b c d : ℕ} (n : Holds u i k p e a b c d) (r : i < 512) where
  -- the node, with f levels below it
  abbrev Level : ℕ → Stmt Variable
  Level f = stmt_of (expr_at most_deep u) (λ j k. list_at f u j k) (λ j k. cases_at f u j k) (λ j k. branches_at f u j k) (head_is p i) i e (what_of k a b c d)

  stmt_held : {x : Stmt Variable} → i < e → among_of (what_of k a b c d) ≡ Default → (is_leaf (shape_of (what_of k a b c d)) ≡ true → e ≤ i + 1) → LeavesIn u (i + 1) e
      → ((f : ℕ) → 3 * (e - i) ≤ suc f + 1 → x ≡ Level f) → Good (width_at u) (looks_at u) x → HeldStmt u x i e
  unfolding list_at
  stmt_held {x} h am lf ls rd gd =
      record { reads = by; good = gd; plain = rw (what_is n r) am; ends = ends_held n r; leaves = leaves-first u i e (leaf_at u i e (what_of k a b c d) (what_is n r) (ends_held n r) lf) ls }
    where
      by : (f : ℕ) → 3 * (e - i) ≤ f + 1 → x ≡ stmt_at f u i e
      by zero k = absurd (omega arith)
      by (suc f) k = rw (what_is n r, head_is_lem n r) (rd f k)

  -- with no parts
  alone-held : {x : Stmt Variable} → e ≡ i + 1 → among_of (what_of k a b c d) ≡ Default → ((f : ℕ) → x ≡ Level f) → Good (width_at u) (looks_at u) x → HeldStmt u x i e
  alone-held q am rd gd = stmt_held (omega arith) am (λ z. omega arith) (λ j y z. absurd (omega arith)) (λ f k. rd f) gd

  -- with parts
  around-held : {x : Stmt Variable} → i < e → among_of (what_of k a b c d) ≡ Default → is_leaf (shape_of (what_of k a b c d)) ≡ false → LeavesIn u (i + 1) e
      → ((f : ℕ) → 3 * (e - i) ≤ suc f + 1 → x ≡ Level f) → Good (width_at u) (looks_at u) x → HeldStmt u x i e
  around-held h am no-leaf ls rd gd = stmt_held h am (λ z. absurd (impossible (sym no-leaf ∙ z))) ls rd gd

module _ {u : List ℕ} {i p e a b c d : ℕ} (r : i < 512) where
  pub skip-held : Holds u i 0 p e a b c d → e ≡ i + 1 → HeldStmt u (tree.skip (head_is p i)) i e
  unfolding what_of Good
  skip-held n q = alone-held n r q refl (λ f. refl) tt

  pub exit-held : Holds u i 9 p e a b c d → e ≡ i + 1 → HeldStmt u (tree.exit (head_is p i)) i e
  unfolding what_of Good
  exit-held n q = alone-held n r q refl (λ f. refl) tt

  pub break-held : Holds u i 10 p e a b c d → e ≡ i + 1 → HeldStmt u (tree.break (head_is p i)) i e
  unfolding what_of Good
  break-held n q = alone-held n r q refl (λ f. refl) tt

  pub delay-held : Holds u i 1 p e a b c d → e ≡ i + 1 → b ≤ 255 → HeldStmt u (tree.delay (head_is p i) a b) i e
  unfolding what_of Good
  delay-held n q g = alone-held n r q refl (λ f. refl) g

  pub change-held : (ch : Change) {x : Target Variable} → Holds u i (change_kind ch) p e a b c d → e ≡ i + 1 → x ≡ target_by b a c → bit_at x < 32 → HeldStmt u (tree.change (head_is p i) ch x) i e
  unfolding what_of Good
  change-held raise n q y g = alone-held n r q refl (λ f. ap (tree.change (head_is p i) raise) y) g
  change-held lower n q y g = alone-held n r q refl (λ f. ap (tree.change (head_is p i) lower) y) g
  change-held invert n q y g = alone-held n r q refl (λ f. ap (tree.change (head_is p i) invert) y) g

  pub assign-held : {x : Expr Variable} → Holds u i 5 p e a b c d → e ≡ i + 1 → expr_at most_deep u d ≡ x → GoodAssign (integer a b) x → c % 256 ≡ looks x → HeldStmt u (tree.assign (head_is p i) (integer a b) x) i e
  unfolding what_of Good
  assign-held n q y g l = alone-held n r q refl (λ f. rw y refl) (g, looks-held n r ∙ l)

  pub choice-held : {x : Expr Variable} {A B : Stmts Variable} → Holds u i 6 p e a b c d → i < b → b ≤ e → expr_at most_deep u a ≡ x → GoodTest x → c % 256 ≡ looks x → HeldList u A (i + 1) b → HeldList u B b e → HeldStmt u (tree.choice (head_is p i) x A B) i e
  unfolding what_of Good
  choice-held n h g y t l s z =
      around-held n r (omega arith) refl refl (leaves-both u (i + 1) b e s.leaves z.leaves)
      (λ f k. rw (y, within_is b i e h g, ← s.reads f (omega arith), ← z.reads f (omega arith)) refl)
      (t, (looks-held n r ∙ l, (s.good, z.good)))

  pub while-held : {x : Expr Variable} {A : Stmts Variable} → Holds u i 7 p e a b c d → i < e → expr_at most_deep u a ≡ x → GoodTest x → c % 256 ≡ looks x → HeldList u A (i + 1) e → HeldStmt u (tree.while (head_is p i) x A) i e
  unfolding what_of Good
  while-held n h y t l s = around-held n r h refl refl s.leaves (λ f k. rw (y, ← s.reads f (omega arith)) refl) (t, (looks-held n r ∙ l, s.good))

  pub loop-held : {A : Stmts Variable} → Holds u i 8 p e a b c d → i < e → HeldList u A (i + 1) e → HeldStmt u (tree.loop (head_is p i) A) i e
  unfolding what_of Good
  loop-held n h s = around-held n r h refl refl s.leaves (λ f k. ap (tree.loop (head_is p i)) (s.reads f (omega arith))) s.good

  pub switch-held : {A : Cases Variable} → Holds u i 11 p e a b c d → i < e → HeldCases u A (i + 1) e → HeldStmt u (tree.switch (head_is p i) A) i e
  unfolding what_of Good
  switch-held n h s = around-held n r h refl refl s.leaves (λ f k. ap (tree.switch (head_is p i)) (s.reads f (omega arith))) s.good

  pub parallel-held : {A : Branches Variable} → Holds u i 12 p e a b c d → i < e → HeldEach u A (i + 1) e → HeldStmt u (tree.parallel (head_is p i) A) i e
  unfolding what_of Good
  parallel-held n h s = around-held n r h refl refl s.leaves (λ f k. ap (tree.parallel (head_is p i)) (s.reads f (omega arith))) s.good

-- ---- lists

pub end-held : (u : List ℕ) (i : ℕ) → HeldList u end i i
unfolding list_at Good
end-held u i = record { reads = by; good = tt; plain = λ h. absurd (omega arith); leaves = λ j h k. absurd (omega arith) }
  where
    by : (f : ℕ) → 3 * (i - i) ≤ f → end ≡ list_at f u i i
    by zero k = refl
    by (suc f) k = rw (le-ltb i i (omega arith)) refl

end_is : (u : List ℕ) (i m e : ℕ) → i < m → m ≤ e → half_at u (node_base i + 4) ≡ m → end_at u i e ≡ m
unfolding end_at
end_is u i m e h g n = rw n (within_is m i e h g)

pub cons-held : {u : List ℕ} {x : Stmt Variable} {xs : Stmts Variable} {i m e : ℕ} → i < m → m ≤ e → HeldStmt u x i m → HeldList u xs m e → HeldList u (x ⨾ xs) i e
unfolding list_at Good
cons-held {u} {x} {xs} {i} {m} {e} h g s z = record { reads = by; good = (s.good, z.good); plain = λ k. s.plain; leaves = leaves-both u i m e s.leaves z.leaves }
  where
    by : (f : ℕ) → 3 * (e - i) ≤ f → x ⨾ xs ≡ list_at f u i e
    by zero k = absurd (omega arith)
    by (suc f) k = rw (lt-ltb i e (omega arith), end_is u i m e h g s.ends, ← s.reads f (omega arith), ← z.reads f (omega arith)) refl

-- ---- cases

none_left_lem : (f : ℕ) (u : List ℕ) (i e : ℕ) → ltb i e ≡ false → list_at f u i e ≡ end
unfolding list_at
none_left_lem zero u i e q = refl
none_left_lem (suc f) u i e q = rw q refl

pub default-held : {u : List ℕ} {x : Stmts Variable} {i e : ℕ} → HeldList u x i e → HeldCases u (default x) i e
unfolding list_at Good
default-held {u} {x} {i} {e} s = record { reads = by; good = s.good; leaves = s.leaves }
  where
    go : (f : ℕ) → 3 * (e - i) < suc f → (t : Bool) → ltb i e ≡ t → default x ≡ cases_at (suc f) u i e
    go f k true q = rw (q, s.plain (ltb-true i e q)) (ap default (s.reads f (omega arith)))
    go f k false q = rw q (ap default (s.reads f (omega arith) ∙ none_left_lem f u i e q))

    by : (f : ℕ) → 3 * (e - i) < f → default x ≡ cases_at f u i e
    by zero k = absurd (omega arith)
    by (suc f) k = go f k (ltb i e) refl

pub case-held : {u : List ℕ} {i p j e a b c d : ℕ} {x : Expr Variable} {A : Stmts Variable} {B : Cases Variable} → i < 512 → Holds u i 13 p j a b c d → j ≤ i + 1 → i < b → b ≤ e → expr_at most_deep u a ≡ x → GoodTest x → c % 256 ≡ looks x → HeldList u A (i + 1) b → HeldCases u B b e
    → HeldCases u (case (head_is p i) x A B) i e
unfolding list_at Good what_of
case-held {u} {i} {p} {j} {e} {a} {b} {c} {d} {x} {A} {B} r n y h g q t l s z =
    record { reads = by; good = (t, (looks-held n r ∙ l, (s.good, z.good))); leaves = leaves-first u i e (leaf_at u i j (Case a b) (what_is n r) (ends_held n r) (λ w. y)) (leaves-both u (i + 1) b e s.leaves z.leaves) }
  where
    by : (f : ℕ) → 3 * (e - i) < f → case (head_is p i) x A B ≡ cases_at f u i e
    by zero k = absurd (omega arith)
    by (suc f) k = let w : what_at u i ≡ Case a b = what_is n r in rw (lt-ltb i e (omega arith), w, head_is_lem n r, q, within_is b i e h g, ← s.reads f (omega arith), ← z.reads f (omega arith)) refl

-- ---- branches

pub none-held : (u : List ℕ) (i : ℕ) → HeldEach u tree.none i i
unfolding list_at Good
none-held u i = record { reads = by; good = tt; leaves = λ j h k. absurd (omega arith) }
  where
    by : (f : ℕ) → 3 * (i - i) < f → tree.none ≡ branches_at f u i i
    by zero k = absurd (omega arith)
    by (suc f) k = rw (le-ltb i i (omega arith)) refl

branch_end_is : (u : List ℕ) (i m e : ℕ) → i < 512 → i < m → m ≤ e → half_at u (i * 16 + 6) ≡ m → branch_end_at u i e ≡ m
unfolding branch_end_at
branch_end_is u i m e r h g n = rw (base i r, n) (within_is m i e h g)

pub width_is : (u : List ℕ) (i a : ℕ) → i < 512 → get_or u (i * 16 + 1) 0 ≡ a → width_at u i ≡ a
unfolding width_at
width_is u i a r n = rw (base i r) n

pub branch_held : {u : List ℕ} {x : Stmts Variable} {xs : Branches Variable} {i m e : ℕ} → i < 512 → i < m → m ≤ e → half_at u (i * 16 + 6) ≡ m → width_at u (first_number x) ≡ activities_all x → HeldList u x i m → HeldEach u xs m e → HeldEach u (x ∥ xs) i e
unfolding list_at Good
branch_held {u} {x} {xs} {i} {m} {e} r h g n w s z = record { reads = by; good = (w, (s.good, z.good)); leaves = leaves-both u i m e s.leaves z.leaves }
  where
    by : (f : ℕ) → 3 * (e - i) < f → x ∥ xs ≡ branches_at f u i e
    by zero k = absurd (omega arith)
    by (suc f) k = rw (lt-ltb i e (omega arith), branch_end_is u i m e r h g n, ← s.reads f (omega arith), ← z.reads f (omega arith)) refl
