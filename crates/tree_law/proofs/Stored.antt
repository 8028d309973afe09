-- The bytes that the walk over statements writes decode to the statements, their names resolved and numbered, whatever is written elsewhere.
-- Assumes nothing.
use mathlib.Core.Bool.{Bool, true}
use mathlib.Core.Path.{◌≡◌, refl, sym, ◌∙◌, ap, subst, subst₂}
use mathlib.Core.List.{List, [], ◌∷◌, ◌++◌}
use mathlib.Core.Option.{Option}
use Prim.Native.Nat.{ℕ, ◌+◌, ◌*◌, ◌%◌, ◌≤◌, ◌<◌, min, max}
use native.Mathlib.Omega.{arith}
use native.Mathlib.Nat.{mod-eq_of_lt}
use lib.ListN.{length, get_or}
use Rattle.meaning.specs.Tree.{Expr, Change, raise, lower, invert, whole, part, Stmt, skip, delay, change, assign, choice, while, loop, exit, break, switch, parallel, Stmts, end, ◌⨾◌, Cases, default, case, Branches, none, ◌∥◌}
use Rattle.meaning.specs.Numbers.{Variable}
use Rattle.meaning.specs.Clock.{head_of, activities_all, activities_sum}
use Rattle.meaning.specs.Declared.{Declaration, look_up}
use Rattle.meaning.specs.Items.{Item, statement, test, items, items_all, items_cases, items_each, own, within}
use Rattle.meaning.specs.Names.{when}
use Rattle.meaning.specs.Kinds.{kind_of}
use Rattle.meaning.specs.Kinds as kinds
use Rattle.meaning.specs.Checked.{variable_of, resolved, checked, checked_all, checked_cases, checked_each}
use Rattle.meaning.proofs.Declared.{when-none}
use Rattle.meaning.proofs.Eight.{same-all}
use Rattle.language.specs.Trees.{Name}
use Rattle.nodes.specs.Decode.{expr_at, most_deep}
use Rattle.nodes.specs.Looks.{looks}
use Rattle.nodes.specs.Fit.{Fit}
use Rattle.nodes.specs.Good.{GoodTest, first_number}
use Rattle.parts.specs.Sum.{Sum, sum, at_six, at_seven}
use Rattle.expr_law.proofs.Placed.{Placed}
use Rattle.expr_law.proofs.Fine as exprs
use Rattle.expr_law.proofs.Fine.{Fine}
use Rattle.items.specs.Walk.{change_kind, Walked, walked, test_at, tested, begun, begun_at, with_acts, with_notes, cased, leaves, delayed, target_marks, assigned, assign_at, change_at, together, end_for, finished, branched, walk, walk_all, walk_cases, walk_each}
use Rattle.kept_law.specs.Kept.{Every}
use Rattle.stmts_law.proofs.Walks.{every-left, every-right}
use Rattle.stmts_law.proofs.Acts.{acts-all, some-acts}
use Rattle.tree_law.proofs.Same.{Whole, Most, whole-whole, whole-most, whole_back, most-whole, most-back, most-most}
use Rattle.tree_law.proofs.Node.{Holds, holds, node_grown, width-held, branch_held, before_branch}
use Rattle.formed_law.proofs.Filled.{Some, Filled, FilledAll, FilledCases, FilledEach, some-items, one_item}
use Rattle.tree_law.proofs.Moved.{Room, Moved, room-left, room-right, stands, then, ended, begins, begun-parts, one-part, parts-append, branch_ended, test-moved, case-moved, assign-moved, together-moved, side_moved, first-room, moved, moved_all, moved_cases, moved-each}
use Rattle.tree_law.proofs.Held as held
use Rattle.tree_law.proofs.Held.{HeldStmt, HeldList, HeldCases, HeldEach}
use Rattle.tree_law.proofs.Right.{Right, delay-low, sum_low, whole_is, part_is, assign-right}

-- ---- a node that was written behind its parts

pub record Opened (u : List ℕ) (v : Walked) (i k p a b c d x y : ℕ) : Type 0 where
  pub node : Holds u i k p (end_for k v.marks.nodes) a b c d
  pub inside : Whole u v.bytes (i + 1) v.marks.nodes x y

pub opened : (u : List ℕ) (v : Walked) (i k p a b c d x y : ℕ) → i < v.marks.nodes → v.marks.nodes ≤ 512 → 16384 ≤ length v.bytes → Most u (finished i k p a b c d v).bytes i v.marks.nodes x y → Opened u v i k p a b c d x y
unfolding finished
opened u v i k p a b c d x y h r l m =
    let e : ℕ = end_for k v.marks.nodes in
    let g = node_grown v.bytes i k p e a b c d (omega arith) (omega arith) x x in
    let w = most-whole (i + 1) v.marks.nodes x y m (omega arith) (omega arith) (omega arith) (omega arith) in
    record {
      node = holds v.bytes i k p e a b c d (omega arith) (omega arith) h m;
      inside = record { nodes = λ q f s. w.nodes q f s ∙ g.middle q f (omega arith); parts = λ q f s. w.parts q f s ∙ g.high q f };
    }

-- what stands between two states of the walk
segment : {u : List ℕ} {i j x y : ℕ} (a b v : Walked) (is : List Item) → Whole u v.bytes i j x y → Moved b v is → i ≤ a.marks.nodes → x ≤ a.marks.notes.parts → v.marks.nodes ≤ j → v.marks.notes.parts ≤ y → j ≤ 512
    → Whole u b.bytes a.marks.nodes b.marks.nodes a.marks.notes.parts b.marks.notes.parts
segment a b v is w m h k f g l =
    whole_back (whole-whole a.marks.nodes b.marks.nodes a.marks.notes.parts b.marks.notes.parts w h (omega (arith, m.nodes)) k (omega (arith, m.parts))) m.bytes (omega arith) (omega arith) (omega arith)

-- .. and the parts before a state
parts-before : {u : List ℕ} {i j x y : ℕ} (b v : Walked) (is : List Item) → Whole u v.bytes i j x y → Moved b v is → v.marks.notes.parts ≤ y → v.marks.nodes ≤ 512 → (q : ℕ) → 8192 + x * 8 ≤ q → q < 8192 + b.marks.notes.parts * 8 → get_or u q 0 ≡ get_or b.bytes q 0
parts-before b v is w m h k q f g = w.parts q f (omega (arith, m.parts)) ∙ m.bytes.middle q (omega arith) g

number_is : (s : Stmt Name) (R : Name → Variable) (n : ℕ) → (head_of (checked s R n)).number ≡ n
unfolding checked
number_is (skip h) R n = refl
number_is (delay h p d) R n = refl
number_is (change h c t) R n = refl
number_is (assign h v e) R n = refl
number_is (choice h e a b) R n = refl
number_is (while h e b) R n = refl
number_is (loop h b) R n = refl
number_is (exit h) R n = refl
number_is (break h) R n = refl
number_is (switch h cs) R n = refl
number_is (parallel h bs) R n = refl

first_is : (v : Stmts Name) (R : Name → Variable) (n : ℕ) → Some v → first_number (checked_all v R n) ≡ n
unfolding checked
first_is end R n f = absurd f
first_is (s ⨾ ss) R n f = number_is s R n

one_branch : (a x : ℕ) → a ≡ max 1 (min 9 x) → 1 ≤ x → x ≤ 8 → a ≡ x
one_branch a x e h k = omega arith

change-end : (c : Change) (n : ℕ) → end_for (change_kind c) n ≡ n
unfolding end_for
change-end raise n = refl
change-end lower n = refl
change-end invert n = refl

module _ (ds : List Declaration) (P : Placed ds) where
  abbrev L : List ℕ → Option Variable
  L x = look_up ds x

  abbrev R : Name → Variable
  R = variable_of ds

  fine_of : (x : Item) (e : Expr Name) → own x ≡ within e → Right ds x → Fine ds e
  fine_of x e o r = record { names = rw (← o) r.names; kinds = rw (← o) r.kinds; worst = rw (← o) r.worst }

  -- an expression, where u has its parts
  record Tested (u : List ℕ) (e : Expr Name) (x : Sum) : Type 0 where
    reads : expr_at most_deep u x.root ≡ resolved e R
    inputs : x.looks % 256 ≡ looks (resolved e R)
    fit : Fit (resolved e R)

  expr_held : (u : List ℕ) (w w₀ w₁ : Walked) (e : Expr Name) (i : Item) (is : List Item) → own i ≡ within e → Right ds i → Room w (i ∷ is) → w₀.marks.notes.parts ≡ w.marks.notes.parts → w₀.bytes ≡ w.bytes → Moved w w₁ (i ∷ [])
      → w₁.bytes ≡ (sum L e w₀.marks.notes w₀.bytes).bytes → ((q : ℕ) → 8192 + w.marks.notes.parts * 8 ≤ q → q < 8192 + w₁.marks.notes.parts * 8 → get_or u q 0 ≡ get_or w₁.bytes q 0)
      → Tested u e (sum L e w₀.marks.notes w₀.bytes)
  expr_held u w w₀ w₁ e i is o right r a b m c agree =
      let z = ap length o in
      let k = one-part i in
      let s = parts-append (i ∷ []) is in
      let fine = fine_of i e o right in
      record {
        reads = exprs.decoded ds P e w₀.marks.notes w₀.bytes u most_deep fine (omega (arith, r.parts)) (rw b r.long) (omega (arith, r.parts))
            (λ q f g. agree q (omega arith) (omega (arith, m.parts)) ∙ ap (λ (l : List ℕ). get_or l q 0) c);
        inputs = ap (λ (n : ℕ). n % 256) (exprs.looks_is ds P e w₀.marks.notes w₀.bytes fine) ∙ mod-eq_of_lt (exprs.looks-low ds P e);
        fit = exprs.fit ds P e fine;
      }

  test_good : (i : Item) (e : Expr Name) (p : ℕ) → own i ≡ within e → Right ds i → when (kinds.is_whole (kind_of ds e)) p ≡ [] → Fit (resolved e R) → GoodTest (resolved e R)
  test_good i e p o r k f = (exprs.whole_is ds e (fine_of i e o r) ∙ when-none (kinds.is_whole (kind_of ds e)) p k, f)

  at_list : (v : Stmts Name) {u : List ℕ} {n m i j e : ℕ} → n ≡ m → i ≡ j → HeldList u (checked_all v R m) j e → HeldList u (checked_all v R n) i e
  at_list v {u} {n} {m} {i} {j} {e} p q h = subst₂ (λ (a b : ℕ). HeldList u (checked_all v R a) b e) (sym p) (sym q) h

  at_cases : (v : Cases Name) {u : List ℕ} {n m i j e : ℕ} → n ≡ m → i ≡ j → HeldCases u (checked_cases v R m) j e → HeldCases u (checked_cases v R n) i e
  at_cases v {u} {n} {m} {i} {j} {e} p q h = subst₂ (λ (a b : ℕ). HeldCases u (checked_cases v R a) b e) (sym p) (sym q) h

  at_each : (v : Branches Name) {u : List ℕ} {n m i j e : ℕ} → n ≡ m → i ≡ j → HeldEach u (checked_each v R m) j e → HeldEach u (checked_each v R n) i e
  at_each v {u} {n} {m} {i} {j} {e} p q h = subst₂ (λ (a b : ℕ). HeldEach u (checked_each v R a) b e) (sym p) (sym q) h

  -- u has what the walk from one state to another wrote
  abbrev Has : List ℕ → Walked → Walked → Type 0
  Has u w v = Most u v.bytes w.marks.nodes v.marks.nodes w.marks.notes.parts v.marks.notes.parts

  mutual
    unfolding walk finished end_for test_at tested with_notes with_acts cased branched leaves change_at target_marks assign_at assigned at_six at_seven items Filled checked activities_all

    pub held_stmt : (v : Stmt Name) (l b : Bool) (w : Walked) (u : List ℕ) → Filled v → Every (Right ds) (items v) → Room w (items v) → Has u w (walk L v l b w) → HeldStmt u (checked v R w.marks.nodes) w.marks.nodes (walk L v l b w).marks.nodes
    held_stmt (skip h) l b w u f q r s =
        let m = moved L (skip h) l b w f r in
        let o = opened u (begun_at L h.place w) w.marks.nodes 0 h.place 0 0 0 0 _ _ (omega (arith, m.nodes)) (omega (arith, m.nodes, r.nodes)) r.long s in
        held.skip-held (omega (arith, r.nodes)) o.node m.nodes
    held_stmt (delay h p n) l b w u f q r s =
        let m = moved L (delay h p n) l b w f r in
        let o = opened u (walked (delayed (begun w.marks h.place) n p) w.bytes) w.marks.nodes 1 h.place p n 0 0 _ _ (omega (arith, m.nodes)) (omega (arith, m.nodes, r.nodes)) r.long s in
        held.delay-held (omega (arith, r.nodes)) o.node m.nodes (delay-low n p q.0.size)
    held_stmt (change h c (whole v)) l b w u f q r s =
        let m = moved L (change h c (whole v)) l b w f r in
        let o = opened u (walked (begun w.marks h.place) w.bytes) w.marks.nodes (change_kind c) h.place _ _ 0 0 _ _ (omega (arith, m.nodes)) (omega (arith, m.nodes, r.nodes)) r.long s in
        let t = whole_is (L v.bytes) h.place (P v.bytes) q.0.kind in
        held.change-held (omega (arith, r.nodes)) c (rw (change-end c (begun w.marks h.place).nodes) at o.node) m.nodes t.0 t.1
    held_stmt (change h c (part v j)) l b w u f q r s =
        let m = moved L (change h c (part v j)) l b w f r in
        let o = opened u (walked (begun w.marks h.place) w.bytes) w.marks.nodes (change_kind c) h.place _ _ j 0 _ _ (omega (arith, m.nodes)) (omega (arith, m.nodes, r.nodes)) r.long s in
        let t = part_is (L v.bytes) j v.place (P v.bytes) q.0.kind in
        held.change-held (omega (arith, r.nodes)) c (rw (change-end c (begun w.marks h.place).nodes) at o.node) m.nodes t.0 t.1
    held_stmt (exit h) l b w u f q r s =
        let m = moved L (exit h) l b w f r in
        let o = opened u (begun_at L h.place w) w.marks.nodes 9 h.place 0 0 0 0 _ _ (omega (arith, m.nodes)) (omega (arith, m.nodes, r.nodes)) r.long s in
        held.exit-held (omega (arith, r.nodes)) o.node m.nodes
    held_stmt (break h) l b w u f q r s =
        let m = moved L (break h) l b w f r in
        let o = opened u (begun_at L h.place w) w.marks.nodes 10 h.place 0 0 0 0 _ _ (omega (arith, m.nodes)) (omega (arith, m.nodes, r.nodes)) r.long s in
        held.break-held (omega (arith, r.nodes)) o.node m.nodes
    held_stmt (assign h v e) l b w u f q r s =
        let i : Item = statement (assign h v e) in
        let w₀ : Walked = begun_at L h.place w in
        let z : Sum = sum L e (begun w.marks h.place).notes w.bytes in
        let w₁ : Walked = walked (assigned (begun w.marks h.place) z (L v.bytes) v.place) z.bytes in
        let m = assign-moved L w h v e r in
        let o = opened u w₁ w.marks.nodes 5 h.place _ _ z.looks z.root _ _ (omega (arith, m.nodes)) (omega (arith, m.nodes, r.nodes)) (omega (arith, r.long, m.bytes.long)) s in
        let t = expr_held u w w₀ w₁ e i [] refl q.0 r (begun-parts w.marks h.place) refl m refl (λ n j k. o.inside.parts n j k) in
        let fine = fine_of i e refl q.0 in
        let (a, g) = assign-right (L v.bytes) (kinds.is_whole (kind_of ds e)) v.place (P v.bytes) q.0.kind (resolved e R) (exprs.whole_is ds e fine) (exprs.size_low ds P e q.0.small fine) t.fit in
        rw a (held.assign-held (omega (arith, r.nodes)) o.node m.nodes t.reads g t.inputs)
    held_stmt (choice h e x y) l b w u f q r s =
        let i : Item = statement (choice h e x y) in
        let w₀ : Walked = begun_at L h.place w in
        let w₁ : Walked = (test_at L e h.place w₀).state in
        let m₁ = test-moved L w e h.place i (items_all x ++ items_all y) refl r in
        let r₁ = room-right w w₁ (i ∷ []) (items_all x ++ items_all y) r m₁ in
        let r₂ = room-left w₁ (items_all x) (items_all y) r₁ in
        let w₂ : Walked = walk_all L x l b w₁ in
        let m₂ = moved_all L x l b w₁ f.0 r₂ in
        let r₃ = room-right w₁ w₂ (items_all x) (items_all y) r₁ m₂ in
        let w₃ : Walked = walk_all L y l b w₂ in
        let m₃ = moved_all L y l b w₂ f.1 r₃ in
        let o = opened u w₃ w.marks.nodes 6 h.place _ _ _ 0 _ _ (omega (arith, m₁.nodes, m₂.nodes, m₃.nodes)) (omega (arith, m₃.nodes, r₃.nodes)) (omega (arith, r₃.long, m₃.bytes.long)) s in
        let t = expr_held u w w₀ w₁ e i (items_all x ++ items_all y) refl q.0 r (begun-parts w.marks h.place) refl m₁ refl (parts-before w₁ w₃ (items_all x ++ items_all y) o.inside (then w₁ w₂ w₃ (items_all x) (items_all y) m₂ m₃) (omega arith) (omega (arith, m₃.nodes, r₃.nodes))) in
        let a = segment w₁ w₂ w₃ (items_all y) o.inside m₃ (omega (arith, m₁.nodes)) (omega (arith, m₁.parts)) (omega arith) (omega arith) (omega (arith, m₃.nodes, r₃.nodes)) in
        let c = segment w₂ w₃ w₃ [] o.inside (stands w₃) (omega (arith, m₁.nodes, m₂.nodes)) (omega (arith, m₁.parts, m₂.parts)) (omega arith) (omega arith) (omega (arith, m₃.nodes, r₃.nodes)) in
        held.choice-held (omega (arith, r.nodes)) o.node (omega (arith, m₁.nodes, m₂.nodes)) (omega (arith, m₃.nodes)) t.reads (test_good i e h.place refl q.0 q.0.kind t.fit) t.inputs
        (at_list x (omega (arith, m₁.nodes)) (omega (arith, m₁.nodes)) (held_all x l b w₁ u f.0 (every-left (Right ds) (items_all x) (items_all y) q.1) r₂ (whole-most a)))
        (at_list y (omega (arith, m₁.nodes, m₂.nodes)) refl (held_all y l b w₂ u f.1 (every-right (Right ds) (items_all x) (items_all y) q.1) r₃ (whole-most c)))
    held_stmt (while h e x) l b w u f q r s =
        let i : Item = statement (while h e x) in
        let w₀ : Walked = begun_at L h.place w in
        let w₁ : Walked = (test_at L e h.place w₀).state in
        let m₁ = test-moved L w e h.place i (items_all x) refl r in
        let r₁ = room-right w w₁ (i ∷ []) (items_all x) r m₁ in
        let w₂ : Walked = walk_all L x true b w₁ in
        let m₂ = moved_all L x true b w₁ f r₁ in
        let o = opened u w₂ w.marks.nodes 7 h.place _ 0 _ 0 _ _ (omega (arith, m₁.nodes, m₂.nodes)) (omega (arith, m₂.nodes, r₁.nodes)) (omega (arith, r₁.long, m₂.bytes.long)) s in
        let t = expr_held u w w₀ w₁ e i (items_all x) refl q.0 r (begun-parts w.marks h.place) refl m₁ refl (parts-before w₁ w₂ (items_all x) o.inside m₂ (omega arith) (omega (arith, m₂.nodes, r₁.nodes))) in
        let g = segment w₁ w₂ w₂ [] o.inside (stands w₂) (omega (arith, m₁.nodes)) (omega (arith, m₁.parts)) (omega arith) (omega arith) (omega (arith, m₂.nodes, r₁.nodes)) in
        held.while-held (omega (arith, r.nodes)) o.node (omega (arith, m₁.nodes, m₂.nodes)) t.reads (test_good i e h.place refl q.0 q.0.kind t.fit) t.inputs
        (at_list x (omega (arith, m₁.nodes)) (omega (arith, m₁.nodes)) (held_all x true b w₁ u f q.1 r₁ (whole-most g)))
    held_stmt (loop h x) l b w u f q r s =
        let i : Item = statement (loop h x) in
        let w₁ : Walked = begun_at L h.place w in
        let m₁ = begins L w h.place i (items_all x) refl r in
        let r₁ = room-right w w₁ (i ∷ []) (items_all x) r m₁ in
        let w₂ : Walked = walk_all L x true b w₁ in
        let m₂ = moved_all L x true b w₁ f r₁ in
        let o = opened u w₂ w.marks.nodes 8 h.place 0 0 0 0 _ _ (omega (arith, m₁.nodes, m₂.nodes)) (omega (arith, m₂.nodes, r₁.nodes)) (omega (arith, r₁.long, m₂.bytes.long)) s in
        let g = segment w₁ w₂ w₂ [] o.inside (stands w₂) (omega (arith, m₁.nodes)) (omega (arith, m₁.parts)) (omega arith) (omega arith) (omega (arith, m₂.nodes, r₁.nodes)) in
        held.loop-held (omega (arith, r.nodes)) o.node (omega (arith, m₁.nodes, m₂.nodes))
        (at_list x (omega (arith, m₁.nodes)) (omega (arith, m₁.nodes)) (held_all x true b w₁ u f q.1 r₁ (whole-most g)))
    held_stmt (switch h cs) l b w u f q r s =
        let i : Item = statement (switch h cs) in
        let w₁ : Walked = begun_at L h.place w in
        let m₁ = begins L w h.place i (items_cases cs) refl r in
        let r₁ = room-right w w₁ (i ∷ []) (items_cases cs) r m₁ in
        let w₂ : Walked = walk_cases L cs l true w₁ in
        let m₂ = moved_cases L cs l true w₁ f r₁ in
        let o = opened u w₂ w.marks.nodes 11 h.place 0 0 0 0 _ _ (omega (arith, m₁.nodes, m₂.nodes)) (omega (arith, m₂.nodes, r₁.nodes)) (omega (arith, r₁.long, m₂.bytes.long)) s in
        let g = segment w₁ w₂ w₂ [] o.inside (stands w₂) (omega (arith, m₁.nodes)) (omega (arith, m₁.parts)) (omega arith) (omega arith) (omega (arith, m₂.nodes, r₁.nodes)) in
        held.switch-held (omega (arith, r.nodes)) o.node (omega (arith, m₁.nodes, m₂.nodes))
        (at_cases cs (omega (arith, m₁.nodes)) (omega (arith, m₁.nodes)) (held_cases cs l true w₁ u f q.1 r₁ (whole-most g)))
    held_stmt (parallel h bs) l b w u f q r s =
        let i : Item = statement (parallel h bs) in
        let w₁ : Walked = walked (with_acts (begun w.marks h.place) 0) w.bytes in
        let m₁ = side_moved L w h.place i (items_each bs) refl r in
        let r₁ = room-right w w₁ (i ∷ []) (items_each bs) r m₁ in
        let w₂ : Walked = walk_each L bs l w₁ in
        let m₂ = moved-each L bs l w₁ f r₁ in
        let w₃ : Walked = walked (together w₂.marks w.marks.acts h.place) w₂.bytes in
        let m₃ = together-moved L w₁ w₂ w.marks.acts h.place (items_each bs) m₂ in
        let o = opened u w₃ w.marks.nodes 12 h.place 0 0 0 0 _ _ (omega (arith, m₁.nodes, m₃.nodes)) (omega (arith, m₃.nodes, r₁.nodes)) (omega (arith, r₁.long, m₃.bytes.long)) s in
        let same : w₂.marks.nodes ≡ w₃.marks.nodes = m₂.nodes ∙ sym m₃.nodes in
        let g = whole-whole w₁.marks.nodes w₂.marks.nodes w₁.marks.notes.parts w₂.marks.notes.parts o.inside (omega (arith, m₁.nodes)) (omega arith) (omega (arith, m₁.parts)) (omega (arith, m₂.parts, m₃.parts)) in
        held.parallel-held (omega (arith, r.nodes)) o.node (omega (arith, m₁.nodes, m₃.nodes))
        (at_each bs (omega (arith, m₁.nodes)) (omega (arith, m₁.nodes)) (subst (λ (n : ℕ). HeldEach u (checked_each bs R w₁.marks.nodes) w₁.marks.nodes n) same (held-each bs l w₁ u f q.1 (sum_low (activities_sum bs) h.place q.0.size) r₁ g)))

    pub held_all : (v : Stmts Name) (l b : Bool) (w : Walked) (u : List ℕ) → FilledAll v → Every (Right ds) (items_all v) → Room w (items_all v) → Has u w (walk_all L v l b w) → HeldList u (checked_all v R w.marks.nodes) w.marks.nodes (walk_all L v l b w).marks.nodes
    held_all end l b w u f q r s = held.end-held u w.marks.nodes
    held_all (x ⨾ ss) l b w u f q r s =
        let r₁ = room-left w (items x) (items_all ss) r in
        let m₁ = moved L x l b w f.0 r₁ in
        let w₁ : Walked = walk L x l b w in
        let r₂ = room-right w w₁ (items x) (items_all ss) r m₁ in
        let m₂ = moved_all L ss l b w₁ f.1 r₂ in
        let w₂ : Walked = walk_all L ss l b w₁ in
        let k = one_item x in
        held.cons-held (omega (arith, m₁.nodes)) (omega (arith, m₂.nodes))
        (held_stmt x l b w u f.0 (every-left (Right ds) (items x) (items_all ss) q) r₁ (most-back (most-most w₁.marks.nodes w.marks.notes.parts w₁.marks.notes.parts s (omega (arith, m₂.nodes)) (omega arith) (omega (arith, m₂.parts))) m₂.bytes (omega (arith, m₂.nodes, r₂.nodes)) (omega arith) (omega arith)))
        (at_list ss (omega (arith, m₁.nodes)) refl (held_all ss l b w₁ u f.1 (every-right (Right ds) (items x) (items_all ss) q) r₂ (whole-most (most-whole w₁.marks.nodes w₂.marks.nodes w₁.marks.notes.parts w₂.marks.notes.parts s (omega (arith, m₁.nodes)) (omega arith) (omega (arith, m₁.parts)) (omega arith)))))

    pub held_cases : (v : Cases Name) (l b : Bool) (w : Walked) (u : List ℕ) → FilledCases v → Every (Right ds) (items_cases v) → Room w (items_cases v) → Has u w (walk_cases L v l b w) → HeldCases u (checked_cases v R w.marks.nodes) w.marks.nodes (walk_cases L v l b w).marks.nodes
    held_cases (default d) l b w u f q r s = held.default-held (held_all d l b w u f q r s)
    held_cases (case h e x cs) l b w u f q r s =
        let i : Item = test h e in
        let w₀ : Walked = walked (cased w.marks) w.bytes in
        let w₁ : Walked = (test_at L e h.place w₀).state in
        let r₀ = room-left w (i ∷ items_all x) (items_cases cs) r in
        let m₁ = case-moved L w e h.place i (items_all x) refl r₀ in
        let r₁ = room-right w w₁ (i ∷ []) (items_all x) r₀ m₁ in
        let w₂ : Walked = walk_all L x l b w₁ in
        let m₂ = moved_all L x l b w₁ f.1.0 r₁ in
        let m₁₂ = then w w₁ w₂ (i ∷ []) (items_all x) m₁ m₂ in
        let w₃ : Walked = finished w.marks.nodes 13 h.place (test_at L e h.place w₀).root w₂.marks.nodes (test_at L e h.place w₀).looks 0 w₂ in
        let m₃ = ended w w₂ 13 h.place (test_at L e h.place w₀).root w₂.marks.nodes (test_at L e h.place w₀).looks 0 i (items_all x) r₀ m₁₂ in
        let r₃ = room-right w w₃ (i ∷ items_all x) (items_cases cs) r m₃ in
        let w₄ : Walked = walk_cases L cs l b w₃ in
        let m₄ = moved_cases L cs l b w₃ f.1.1 r₃ in
        let own-bytes = most-back (most-most w₃.marks.nodes w.marks.notes.parts w₃.marks.notes.parts s (omega (arith, m₄.nodes)) (omega arith) (omega (arith, m₄.parts))) m₄.bytes (omega (arith, m₄.nodes, r₃.nodes)) (omega arith) (omega arith) in
        let o = opened u w₂ w.marks.nodes 13 h.place _ _ _ 0 _ _ (omega (arith, m₁.nodes, m₂.nodes)) (omega (arith, m₂.nodes, r₁.nodes)) (omega (arith, r₁.long, m₂.bytes.long)) own-bytes in
        let t = expr_held u w w₀ w₁ e i (items_all x) refl q.0 r₀ refl refl m₁ refl (parts-before w₁ w₂ (items_all x) o.inside m₂ (omega arith) (omega (arith, m₂.nodes, r₁.nodes))) in
        let g = segment w₁ w₂ w₂ [] o.inside (stands w₂) (omega (arith, m₁.nodes)) (omega (arith, m₁.parts)) (omega arith) (omega arith) (omega (arith, m₂.nodes, r₁.nodes)) in
        let c = most-whole w₃.marks.nodes w₄.marks.nodes w₃.marks.notes.parts w₄.marks.notes.parts s (omega (arith, m₁.nodes, m₂.nodes)) (omega arith) (omega (arith, m₃.parts)) (omega arith) in
        held.case-held (omega (arith, r₀.nodes)) o.node (omega arith) (omega (arith, m₁.nodes, m₂.nodes)) (omega (arith, m₄.nodes)) t.reads (test_good i e h.place refl q.0 q.0.kind t.fit) t.inputs
        (at_list x (omega (arith, m₁.nodes)) (omega (arith, m₁.nodes)) (held_all x l b w₁ u f.1.0 (every-left (Right ds) (items_all x) (items_cases cs) q.1) r₁ (whole-most g)))
        (at_cases cs (omega (arith, m₁.nodes, m₂.nodes)) refl (held_cases cs l b w₃ u f.1.1 (every-right (Right ds) (items_all x) (items_cases cs) q.1) r₃ (whole-most c)))

    pub held-each : (v : Branches Name) (l : Bool) (w : Walked) (u : List ℕ) → FilledEach v → Every (Right ds) (items_each v) → activities_sum v ≤ 8 → Room w (items_each v)
        → Whole u (walk_each L v l w).bytes w.marks.nodes (walk_each L v l w).marks.nodes w.marks.notes.parts (walk_each L v l w).marks.notes.parts → HeldEach u (checked_each v R w.marks.nodes) w.marks.nodes (walk_each L v l w).marks.nodes
    held-each none l w u f q k r s = held.none-held u w.marks.nodes
    held-each (x ∥ bs) l w u f q k r s =
        let r₀ = room-left w (items_all x) (items_each bs) r in
        let w₁ : Walked = walked (with_acts w.marks 1) w.bytes in
        let r₁ = first-room L w (items_all x) r₀ in
        let w₂ : Walked = walk_all L x l true w₁ in
        let m₂ = moved_all L x l true w₁ f.1.0 r₁ in
        let some = some-items x f.0 in
        let w₃ : Walked = branched w.marks w₂ in
        let m₃ = branch_ended w w₂ (items_all x) some r₀ m₂ in
        let r₃ = room-right w w₃ (items_all x) (items_each bs) r m₃ in
        let w₄ : Walked = walk_each L bs l w₃ in
        let m₄ = moved-each L bs l w₃ f.1.1 r₃ in
        let g = whole_back (whole-whole w.marks.nodes w₃.marks.nodes w.marks.notes.parts w₃.marks.notes.parts s (omega arith) (omega (arith, m₄.nodes)) (omega arith) (omega (arith, m₄.parts))) m₄.bytes (omega (arith, m₄.nodes, r₃.nodes)) (omega arith) (omega arith) in
        let room : w.marks.nodes < 512 = omega (arith, r₀.nodes) in
        let long : 8192 ≤ length w₂.bytes = omega (arith, r₀.long, m₂.bytes.long) in
        let later : w.marks.nodes < w₂.marks.nodes = omega (arith, m₂.nodes) in
        let c = whole-whole w₃.marks.nodes w₄.marks.nodes w₃.marks.notes.parts w₄.marks.notes.parts s (omega (arith, m₃.nodes)) (omega arith) (omega (arith, m₃.parts)) (omega arith) in
        let wide = acts-all L x l true w₁ (omega arith) in
        held.branch_held room later (omega (arith, m₄.nodes)) (branch_held w₂.bytes w.marks.nodes w₂.marks.acts w₂.marks.nodes room long later g)
        (rw (first_is x R w.marks.nodes f.0, same-all R x w.marks.nodes) (held.width_is u w.marks.nodes (activities_all x) room (width-held w₂.bytes w.marks.nodes w₂.marks.acts w₂.marks.nodes room long later g ∙ one_branch w₂.marks.acts (activities_all x) wide (some-acts x) (omega arith))))
        (held_all x l true w₁ u f.1.0 (every-left (Right ds) (items_all x) (items_each bs) q) r₁ (before_branch w₂.bytes w.marks.nodes w₂.marks.acts w₂.marks.nodes room long later g))
        (at_each bs (omega (arith, m₃.nodes)) refl (held-each bs l w₃ u f.1.1 (every-right (Right ds) (items_all x) (items_each bs) q) (omega arith) r₃ c))
