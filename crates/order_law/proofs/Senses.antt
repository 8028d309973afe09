-- Each statement of a text as its reader reads it. No level too many opens in the program's own text, and inside a call none is noted.
-- Assumes nothing.
use mathlib.Core.Path.{◌≡◌, refl, sym, ap, subst, ◌∙◌}
use mathlib.Core.Bool.{Bool, true, false, cond}
use mathlib.Core.List.{List, []}
use Prim.Native.Nat.{ℕ, suc, ◌+◌, ◌≤◌}
use native.Mathlib.Omega.{arith}
use lib.Dec.{ltb}
use borrow.Author.Tests.{ltb-false, le-ltb}
use Rattle.meaning.specs.Tree.{Name, Change, Target}
use Rattle.meaning.specs.Unexpanded.{Term, literal, truth, variable, bit, not, int, arithmetic, comparison, logic, parens, instead, no_name, skip, delay, change, assign, choice, while, loop, exit, break, switch, parallel, Commands, end, ◌⨾◌, Command, Tests, default, case, Strands, ◌∥◌}
use Rattle.meaning.specs.Unexpanded as unexpanded
use Rattle.meaning.specs.Levels.{most_levels, levels_in}
use Rattle.meaning.specs.Base.{head_at, base_term, base}
use Rattle.meaning.specs.Expansion.{Bound, actual_of, replaced, target_replaced, changed_name, expand, expand_all, expand_tests, expand_each}
use Rattle.own_law.specs.Noted.{deep_at, noted}
use Rattle.own_law.proofs.Noted.{read_behind}
use Rattle.parts.specs.Sum.{sum}
use Rattle.frames_law.specs.Frames.{no_place, Framed}
use Rattle.frames.specs.declared.Under.{Under}
use Rattle.frames.specs.Layout.{frames_of}
use Rattle.items.specs.Walk.{Walked, walked, Test, walk, begun, cased, delayed, leaves, with_acts, together, finished, branched, begun_at, change_at, assign_at}
use Rattle.items.specs.Under.{six_at, nine_at, nine_in, Sense, test_in, one_in, all_in, tests_in, each_in, Scope, sense_of}
use Rattle.order_law.proofs.Order.{in_order}
use Rattle.order_law.proofs.Compound.{read-choice, read-while, read-loop, read-switch, read-parallel, read_strand, read-case}

-- ---- levels

-- so many open levels are not told
abbrev pub Quiet : Bool → ℕ → Type 0
Quiet inside m = (p : ℕ) (s : Walked) → deep_at six_at (nine_in inside) m p s ≡ s

pub quiet : (inside : Bool) (m : ℕ) → (inside ≡ false → m ≤ most_levels) → Quiet inside m
quiet true m h p s = by (ltb most_levels m)
  where
    by : (b : Bool) → cond b s s ≡ s
    by true = refl
    by false = refl
quiet false m h p s = ap (λ (b : Bool). cond b (nine_at p s) s) (le-ltb most_levels m (h refl))

-- without formals a term has the levels that it had
pub same-levels : (to : ℕ → ℕ) (e : Term) → levels_in (replaced to [] e) ≡ levels_in e
unfolding replaced levels_in actual_of
same-levels to (literal p n) = refl
same-levels to (truth p b) = refl
same-levels to (variable v) = refl
same-levels to (bit v j) = refl
same-levels to (not p e) = ap suc (same-levels to e)
same-levels to (int p e) = ap suc (same-levels to e)
same-levels to (arithmetic o p a b) = omega (arith, same-levels to a, same-levels to b)
same-levels to (comparison o p a b) = omega (arith, same-levels to a, same-levels to b)
same-levels to (logic o p a b) = omega (arith, same-levels to a, same-levels to b)
same-levels to (parens e) = ap suc (same-levels to e)
same-levels to (instead e) = ap suc (same-levels to e)
same-levels to (no_name p) = refl

module _ {s z : List ℕ} {u : Under} (count : ℕ) (o : Scope s z count u) where
  -- in the program's own text no name is a formal
  pub own-bound : ltb u.at no_place ≡ false → o.bound ≡ []
  unfolding Framed
  own-bound e = (subst (λ (d : ℕ). Framed s (frames_of s z) u.at d u.frame o.bound) (o.own (λ h. omega (arith, ltb-false u.at no_place e, h))) o.opened.framed).1

  -- G9: what opens so many levels in the text is not told
  pub quiet_text : (m : ℕ) → m ≤ most_levels → Quiet (sense_of count o).inside m
  quiet_text m h = quiet (sense_of count o).inside m (λ e. h)

  pub quiet_term : (n : ℕ) (e : Term) → n + levels_in e ≤ most_levels → Quiet (sense_of count o).inside (n + levels_in (replaced (sense_of count o).to (sense_of count o).bound e))
  quiet_term n e h =
      quiet (sense_of count o).inside (n + levels_in (replaced (sense_of count o).to (sense_of count o).bound e))
      (λ f. let same : levels_in (replaced (sense_of count o).to o.bound e) ≡ levels_in e = ap (λ (b : List (Bound Term)). levels_in (replaced (sense_of count o).to b e)) (own-bound f) ∙ same-levels (sense_of count o).to e in omega (arith, h, same))

-- ---- statements with none inside

module _ (c : Sense) (n : ℕ) (l b : Bool) (w : Walked) where
  pub skip_in : (p : ℕ) → finished w.marks.nodes 0 (c.to p) 0 0 0 0 (begun_at c.look (c.to p) w) ≡ one_in c n (skip p) l b w
  unfolding expand noted base walk
  skip_in p = refl

  pub exit_in : (p : ℕ) → finished w.marks.nodes 9 (c.to p) 0 0 0 0 (walked (leaves (begun w.marks (c.to p)) l (c.to p)) w.bytes) ≡ one_in c n (exit p) l b w
  unfolding expand noted base walk
  exit_in p = refl

  pub break_in : (p : ℕ) → finished w.marks.nodes 10 (c.to p) 0 0 0 0 (walked (leaves (begun w.marks (c.to p)) b (c.to p)) w.bytes) ≡ one_in c n (break p) l b w
  unfolding expand noted base walk
  break_in p = refl

  pub delay_in : (p q k : ℕ) → finished w.marks.nodes 1 (c.to p) (c.to q) k 0 0 (walked (delayed (begun w.marks (c.to p)) k (c.to q)) w.bytes) ≡ one_in c n (delay p q k) l b w
  unfolding expand noted base walk
  delay_in p q k = refl

  pub change_in : (p : ℕ) (ch : Change) (t : Target Name) → Quiet c.inside (suc n) → change_at c.look (head_at (c.to p)) ch (target_replaced c.to c.bound t) w ≡ one_in c n (change p ch t) l b w
  unfolding expand noted base walk
  change_in p ch t q = sym (q (c.to p) (change_at c.look (head_at (c.to p)) ch (target_replaced c.to c.bound t) w))

  -- v is the name that is changed
  pub assign_in : (x v : Name) (e : Term) → v ≡ changed_name c.to x (actual_of c.bound x.bytes) → Quiet c.inside (n + levels_in (replaced c.to c.bound e))
      → assign_at c.look (head_at v.place) v (begun w.marks v.place) (sum c.look (base_term (replaced c.to c.bound e)) (begun w.marks v.place).notes w.bytes) w.marks.nodes ≡ one_in c n (assign x e) l b w
  unfolding expand noted base walk
  assign_in x v e is q =
      ap (λ (y : Name). assign_at c.look (head_at y.place) y (begun w.marks y.place) (sum c.look (base_term (replaced c.to c.bound e)) (begun w.marks y.place).notes w.bytes) w.marks.nodes) is
      ∙ sym (q _ _)

-- ---- statements with statements inside; i is one level more

module _ (c : Sense) (n i : ℕ) (deeper : i ≡ suc n) (l b : Bool) (w : Walked) where
  pub loop_in : (p : ℕ) (x : Commands) (y : Walked) → Quiet c.inside (suc n) → y ≡ all_in c i x true b (begun_at c.look (c.to p) w) → finished w.marks.nodes 8 (c.to p) 0 0 0 0 y ≡ one_in c n (loop p x) l b w
  unfolding expand
  loop_in p x y q e =
      ap (finished w.marks.nodes 8 (c.to p) 0 0 0 0) (e ∙ ap (λ (k : ℕ). all_in c k x true b (begun_at c.look (c.to p) w)) deeper ∙ ap (all_in c (suc n) x true b) (sym (q (c.to p) (begun_at c.look (c.to p) w))))
      ∙ sym (read-loop c.look c.inside n (c.to p) (expand_all c.calls c.to c.bound x) l b w)

  pub while_in : (p : ℕ) (e : Term) (x : Commands) (t : Test) (y : Walked) → Quiet c.inside (suc n + levels_in (replaced c.to c.bound e)) → t ≡ test_in c e (c.to p) (begun_at c.look (c.to p) w) → y ≡ all_in c i x true b t.state
      → finished w.marks.nodes 7 (c.to p) t.root 0 t.looks 0 y ≡ one_in c n (while p e x) l b w
  unfolding expand
  while_in p e x t y q f g =
      ap (finished w.marks.nodes 7 (c.to p) t.root 0 t.looks 0) (g ∙ ap (λ (k : ℕ). all_in c k x true b t.state) deeper ∙ ap (all_in c (suc n) x true b) (sym (q (c.to p) t.state)))
      ∙ sym (read-while c.look c.inside n (c.to p) (replaced c.to c.bound e) (expand_all c.calls c.to c.bound x) l b w t f)

  pub choice_in : (p : ℕ) (e : Term) (x z : Commands) (t : Test) (y y₁ : Walked) → Quiet c.inside (suc n + levels_in (replaced c.to c.bound e)) → t ≡ test_in c e (c.to p) (begun_at c.look (c.to p) w)
      → y ≡ all_in c i x l b t.state → y₁ ≡ all_in c i z l b y → finished w.marks.nodes 6 (c.to p) t.root y.marks.nodes t.looks 0 y₁ ≡ one_in c n (choice p e x z) l b w
  unfolding expand
  choice_in p e x z t y y₁ q f g h =
      ap (finished w.marks.nodes 6 (c.to p) t.root y.marks.nodes t.looks 0) (h ∙ ap (λ (k : ℕ). all_in c k z l b y) deeper)
      ∙ sym (read-choice c.look c.inside n (c.to p) (replaced c.to c.bound e) (expand_all c.calls c.to c.bound x) (expand_all c.calls c.to c.bound z) l b w t y f
      (g ∙ ap (λ (k : ℕ). all_in c k x l b t.state) deeper ∙ ap (all_in c (suc n) x l b) (sym (q (c.to p) t.state))))

  pub switch_in : (p : ℕ) (ts : Tests) (y : Walked) → Quiet c.inside (suc n) → y ≡ tests_in c i ts l true (begun_at c.look (c.to p) w) → finished w.marks.nodes 11 (c.to p) 0 0 0 0 y ≡ one_in c n (switch p ts) l b w
  unfolding expand
  switch_in p ts y q e =
      ap (finished w.marks.nodes 11 (c.to p) 0 0 0 0) (e ∙ ap (λ (k : ℕ). tests_in c k ts l true (begun_at c.look (c.to p) w)) deeper ∙ ap (tests_in c (suc n) ts l true) (sym (q (c.to p) (begun_at c.look (c.to p) w))))
      ∙ sym (read-switch c.look c.inside n (c.to p) (expand_tests c.calls c.to c.bound ts) l b w)

  pub parallel_in : (p : ℕ) (bs : Strands) (y : Walked) → Quiet c.inside (suc n) → y ≡ each_in c i bs l (walked (with_acts (begun w.marks (c.to p)) 0) w.bytes)
      → finished w.marks.nodes 12 (c.to p) 0 0 0 0 (walked (together y.marks w.marks.acts (c.to p)) y.bytes) ≡ one_in c n (parallel p bs) l b w
  unfolding expand
  parallel_in p bs y q e =
      let v = walked (with_acts (begun w.marks (c.to p)) 0) w.bytes in
      sym (read-parallel c.look c.inside n (c.to p) (expand_each c.calls c.to c.bound bs) l b w y (e ∙ ap (λ (k : ℕ). each_in c k bs l v) deeper ∙ ap (each_in c (suc n) bs l) (sym (q (c.to p) v))))

-- ---- lists, cases, branches

module _ (c : Sense) (n : ℕ) (l : Bool) where
  pub end_in : (b : Bool) (w : Walked) → w ≡ all_in c n end l b w
  unfolding expand noted base walk
  end_in b w = refl

  pub more_in : (b : Bool) (w : Walked) (x : Command) (ss : Commands) (y : Walked) → y ≡ one_in c n x l b w → all_in c n ss l b y ≡ all_in c n (x ⨾ ss) l b w
  more_in b w x ss y e =
      ap (all_in c n ss l b) e ∙ sym (read_behind six_at (nine_in c.inside) (in_order c.look c.inside l b) n c.calls c.to c.bound x ss w)

  pub default_in : (b : Bool) (w : Walked) (d : Commands) → all_in c n d l b w ≡ tests_in c n (default d) l b w
  unfolding expand noted base walk
  default_in b w d = refl

  pub case_in : (b : Bool) (w : Walked) (p : ℕ) (e : Term) (x : Commands) (ts : Tests) (t : Test) (y : Walked) → Quiet c.inside (n + levels_in (replaced c.to c.bound e)) → t ≡ test_in c e (c.to p) (walked (cased w.marks) w.bytes)
      → y ≡ all_in c n x l b t.state → tests_in c n ts l b (finished w.marks.nodes 13 (c.to p) t.root y.marks.nodes t.looks 0 y) ≡ tests_in c n (case p e x ts) l b w
  unfolding expand
  case_in b w p e x ts t y q f g =
      sym (read-case c.look c.inside n (c.to p) (replaced c.to c.bound e) (expand_all c.calls c.to c.bound x) (expand_tests c.calls c.to c.bound ts) l b w t y f
      (g ∙ ap (all_in c n x l b) (sym (q (c.to p) t.state))))

  pub none_in : (w : Walked) → w ≡ each_in c n unexpanded.none l w
  unfolding expand noted base walk
  none_in w = refl

  pub strand_in : (w : Walked) (x : Commands) (bs : Strands) (y : Walked) → y ≡ all_in c n x l true (walked (with_acts w.marks 1) w.bytes) → each_in c n bs l (branched w.marks y) ≡ each_in c n (x ∥ bs) l w
  unfolding expand
  strand_in w x bs y e =
      ap (λ (r : Walked). each_in c n bs l (branched w.marks r)) e ∙ sym (read_strand c.look c.inside n (expand_all c.calls c.to c.bound x) (expand_each c.calls c.to c.bound bs) l w)
