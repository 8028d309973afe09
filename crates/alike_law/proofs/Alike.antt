-- What is noted of statements does not depend on the numbers of variables.
-- Assumes nothing.
use mathlib.Core.Bool.{Bool, true, false}
use mathlib.Core.Path.{◌≡◌, refl, ap}
use mathlib.Core.List.{List}
use mathlib.Core.Option.{Option}
use Prim.Native.Nat.{ℕ}
use Rattle.meaning.specs.Tree.{Expr, literal, truth, variable, bit, not, int, arithmetic, comparison, logic, Change, Target, whole, part, Head, Stmt, skip, delay, change, assign, choice, while, loop, exit, break, switch, parallel, Stmts, end, ◌⨾◌, Cases, default, case, Branches, ◌∥◌}
use Rattle.meaning.specs.Tree as tree
use Rattle.meaning.specs.Numbers.{Variable}
use Rattle.meaning.specs.Names.{missing}
use Rattle.meaning.specs.Kinds.{kind_of_variable, has_bit, changeable, assignable}
use Rattle.meaning.specs.Worst.{variable_worst}
use Rattle.language.specs.Trees.{Name}
use Rattle.parts.specs.declared.Notes.{Notes}
use Rattle.parts.specs.Sum.{Sum, counted, sum, leaf_sum, around_sum, join_sum, of_arithmetic, of_comparison, of_logic}
use Rattle.items.specs.declared.Marks.{Marks}
use Rattle.items.specs.Walk.{begun, cased, leaves, with_notes, with_acts, delayed, target_marks, fits, assigned, tested, Walked, walked, finished, branched, test_at, begun_at, change_at, assign_at, walk, walk_all, walk_cases, walk_each}

-- all that a fault looks at
pub record Alike (a b : Option Variable) : Type 0 where
  pub unknown : missing a ≡ missing b
  pub kind : kind_of_variable a ≡ kind_of_variable b
  pub has : (j : ℕ) → has_bit a j ≡ has_bit b j
  pub worst : variable_worst a ≡ variable_worst b
  pub changes : changeable a ≡ changeable b
  pub assigns : assignable a ≡ assignable b

pub record Sums (a b : Sum) : Type 0 where
  pub notes : a.notes ≡ b.notes
  pub truth : a.truth ≡ b.truth
  pub size : a.size ≡ b.size

joined : (k p : ℕ) (a b c d : Sum) → Sums a c → Sums b d → Sums (join_sum k p a b) (join_sum k p c d)
unfolding join_sum
joined k p a b c d x y = record { notes = cc; truth = refl; size = cc }

around : (n m : Notes) (a b : Sum) (k p : ℕ) (t : Bool) (z : ℕ) → Sums a b → Sums (around_sum n a k p t z) (around_sum m b k p t z)
unfolding around_sum
around n m a b k p t z x = record { notes = cc; truth = refl; size = refl }

module _ (look view : List ℕ → Option Variable) (same : (x : List ℕ) → Alike (look x) (view x)) where
  pair : (k p : ℕ) (b : Expr Name) (x y : Sum) → Sums x y → ((n m : Notes) → n ≡ m → (t u : List ℕ) → Sums (sum look b n t) (sum view b m u))
      → Sums (join_sum k p x (sum look b (counted x.notes p) x.bytes)) (join_sum k p y (sum view b (counted y.notes p) y.bytes))
  pair k p b x y s f =
      joined k p x (sum look b (counted x.notes p) x.bytes) y (sum view b (counted y.notes p) y.bytes) s (f (counted x.notes p) (counted y.notes p) (ap (λ (n : Notes). counted n p) s.notes) x.bytes y.bytes)

  sums : (e : Expr Name) (n m : Notes) → n ≡ m → (t u : List ℕ) → Sums (sum look e n t) (sum view e m u)
  unfolding sum leaf_sum
  sums (literal p k) n m q t u = record { notes = cc; truth = refl; size = refl }
  sums (truth p b) n m q t u = record { notes = cc; truth = refl; size = refl }
  sums (variable v) n m q t u = let x = same v.bytes in record { notes = cc; truth = cc; size = cc }
  sums (bit v j) n m q t u = let x = same v.bytes in let h = x.has j in record { notes = cc; truth = refl; size = refl }
  sums (not p e) n m q t u = around n m (sum look e (counted n p) t) (sum view e (counted m p) u) 7 p true 0 (sums e (counted n p) (counted m p) (ap (λ (k : Notes). counted k p) q) t u)
  sums (int p e) n m q t u = around n m (sum look e (counted n p) t) (sum view e (counted m p) u) 8 p false 1 (sums e (counted n p) (counted m p) (ap (λ (k : Notes). counted k p) q) t u)
  sums (arithmetic o p a b) n m q t u = pair (of_arithmetic o) p b (sum look a n t) (sum view a m u) (sums a n m q t u) (sums b)
  sums (comparison o p a b) n m q t u = pair (of_comparison o) p b (sum look a n t) (sum view a m u) (sums a n m q t u) (sums b)
  sums (logic o p a b) n m q t u = pair (of_logic o) p b (sum look a n t) (sum view a m u) (sums a n m q t u) (sums b)

  -- ---- statements

  begins : (p : ℕ) (w z : Walked) → w.marks ≡ z.marks → begun w.marks p ≡ begun z.marks p
  begins p w z q = ap (λ (m : Marks). begun m p) q

  tests : (e : Expr Name) (p : ℕ) (w z : Walked) → w.marks ≡ z.marks → (test_at look e p w).state.marks ≡ (test_at view e p z).state.marks
  unfolding test_at tested
  tests e p w z q = let x = sums e w.marks.notes z.marks.notes (ap (λ (m : Marks). m.notes) q) w.bytes z.bytes in cc

  changed : (h : Head) (c : Change) (x : Target Name) (w z : Walked) → w.marks ≡ z.marks → (change_at look h c x w).marks ≡ (change_at view h c x z).marks
  unfolding change_at finished target_marks
  changed h c (whole v) w z q = let x = same v.bytes in cc
  changed h c (part v j) w z q = let x = same v.bytes in let b = x.has j in cc

  assigned-alike : (h : Head) (v : Name) (m k : Marks) (a b : Sum) (i j : ℕ) → m ≡ k → Sums a b → (assign_at look h v m a i).marks ≡ (assign_at view h v k b j).marks
  unfolding assign_at finished assigned target_marks fits with_notes
  assigned-alike h v m k a b i j q y = let x = same v.bytes in cc

  mutual
    unfolding walk finished branched

    walks : (v : Stmt Name) (l b : Bool) (w z : Walked) → w.marks ≡ z.marks → (walk look v l b w).marks ≡ (walk view v l b z).marks
    walks (skip h) l b w z q = begins h.place w z q
    walks (delay h p n) l b w z q = ap (λ (m : Marks). delayed (begun m h.place) n p) q
    walks (change h c x) l b w z q = changed h c x w z q
    walks (assign h v e) l b w z q =
        let m = begins h.place w z q in
        assigned-alike h v (begun w.marks h.place) (begun z.marks h.place) (sum look e (begun w.marks h.place).notes w.bytes) (sum view e (begun z.marks h.place).notes z.bytes) w.marks.nodes z.marks.nodes m (sums e (begun w.marks h.place).notes (begun z.marks h.place).notes (ap (λ (k : Marks). k.notes) m) w.bytes z.bytes)
    walks (choice h e x y) l b w z q = marks-alike y l b _ _ (marks-alike x l b _ _ (tests e h.place (begun_at look h.place w) (begun_at view h.place z) (begins h.place w z q)))
    walks (while h e x) l b w z q = marks-alike x true b _ _ (tests e h.place (begun_at look h.place w) (begun_at view h.place z) (begins h.place w z q))
    walks (loop h x) l b w z q = marks-alike x true b (begun_at look h.place w) (begun_at view h.place z) (begins h.place w z q)
    walks (exit h) l b w z q = ap (λ (m : Marks). leaves (begun m h.place) l h.place) q
    walks (break h) l b w z q = ap (λ (m : Marks). leaves (begun m h.place) b h.place) q
    walks (switch h cs) l b w z q = walks_cases cs l true (begun_at look h.place w) (begun_at view h.place z) (begins h.place w z q)
    walks (parallel h bs) l b w z q =
        let x = walks-each bs l (walked (with_acts (begun w.marks h.place) 0) w.bytes) (walked (with_acts (begun z.marks h.place) 0) z.bytes) (ap (λ (m : Marks). with_acts (begun m h.place) 0) q) in
        cc

    pub marks-alike : (v : Stmts Name) (l b : Bool) (w z : Walked) → w.marks ≡ z.marks → (walk_all look v l b w).marks ≡ (walk_all view v l b z).marks
    marks-alike end l b w z q = q
    marks-alike (s ⨾ ss) l b w z q = marks-alike ss l b (walk look s l b w) (walk view s l b z) (walks s l b w z q)

    walks_cases : (v : Cases Name) (l b : Bool) (w z : Walked) → w.marks ≡ z.marks → (walk_cases look v l b w).marks ≡ (walk_cases view v l b z).marks
    walks_cases (default d) l b w z q = marks-alike d l b w z q
    walks_cases (case h e x cs) l b w z q = walks_cases cs l b _ _ (marks-alike x l b _ _ (tests e h.place (walked (cased w.marks) w.bytes) (walked (cased z.marks) z.bytes) (ap cased q)))

    walks-each : (v : Branches Name) (l : Bool) (w z : Walked) → w.marks ≡ z.marks → (walk_each look v l w).marks ≡ (walk_each view v l z).marks
    walks-each tree.none l w z q = q
    walks-each (x ∥ bs) l w z q =
        let y = marks-alike x l true (walked (with_acts w.marks 1) w.bytes) (walked (with_acts z.marks 1) z.bytes) (ap (λ (m : Marks). with_acts m 1) q) in
        walks-each bs l _ _ (cc)
