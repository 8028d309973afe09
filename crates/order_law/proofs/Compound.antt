-- What is noted of a statement with statements inside is noted where its reader meets it.
-- Assumes nothing.
use mathlib.Core.Path.{◌≡◌, refl, sym, ap, ◌∙◌}
use mathlib.Core.Bool.{Bool, true, false, cond}
use mathlib.Core.List.{List}
use mathlib.Core.Option.{Option}
use Prim.Native.Nat.{ℕ, suc, ◌+◌, min}
use lib.Dec.{ltb}
use Rattle.meaning.specs.Numbers.{Variable}
use Rattle.meaning.specs.Unexpanded as unexpanded
use Rattle.meaning.specs.Unexpanded.{Term, Commands, Tests, Strands}
use Rattle.meaning.specs.Levels.{levels_in, most_levels}
use Rattle.meaning.specs.Base.{base_term, base, base_all, base_tests, base_each}
use Rattle.meaning.specs.Expansion.{alone}
use Rattle.own_law.specs.Noted.{deep_at, noted, noted_all, noted_tests, noted_each}
use Rattle.own_law.proofs.Noted.{deep_passes, all_pass, tests_pass, each_passes, noted-keeps}
use Rattle.items.specs.declared.Marks.{Marks}
use Rattle.items.specs.Walk.{Walked, walked, Test, walk, walk_all, walk_cases, walk_each, begun, cased, with_acts, together, finished, branched, test_at, begun_at}
use Rattle.items.specs.Under.{six_at, nine_at, nine_in, read, read_tests, read_each}
use Rattle.order_law.proofs.Touch.{together_touch}
use Rattle.order_law.proofs.Order.{swap, still, same, same-apart, in_call, all_six, all-nine, cases_six, cases_nine, each_six, each-nine}

module _ (look : List ℕ → Option Variable) (inside : Bool) where
  abbrev nine : ℕ → Walked → Walked
  nine = nine_in inside

  -- what lets a single note pass
  module _ (h : Walked → Walked) (six-by : (p : ℕ) (s : Walked) → h (six_at p s) ≡ six_at p (h s)) (nine-by : (p : ℕ) (s : Walked) → h (nine_at p s) ≡ nine_at p (h s)) where
    pub notes_in : (n : ℕ) (x : Commands) (s : Walked) → noted_all six_at nine n x (h s) ≡ h (noted_all six_at nine n x s)
    notes_in n x s = sym (all_pass six_at nine six_at nine h six-by (in_call inside h nine-by) n x s)

    pub deep_in : (m p : ℕ) (s : Walked) → deep_at six_at nine m p (h s) ≡ h (deep_at six_at nine m p s)
    deep_in m p s = sym (deep_passes six_at nine six_at nine h six-by (in_call inside h nine-by) m p s)

  list_in : (l b : Bool) (z : Commands) (n : ℕ) (x : Commands) (s : Walked) → noted_all six_at nine n x (walk_all look (base_all z) l b s) ≡ walk_all look (base_all z) l b (noted_all six_at nine n x s)
  list_in l b z = notes_in (walk_all look (base_all z) l b) (all_six look (base_all z) l b) (all-nine look (base_all z) l b)

  list-deep : (l b : Bool) (z : Commands) (m p : ℕ) (s : Walked) → deep_at six_at nine m p (walk_all look (base_all z) l b s) ≡ walk_all look (base_all z) l b (deep_at six_at nine m p s)
  list-deep l b z = deep_in (walk_all look (base_all z) l b) (all_six look (base_all z) l b) (all-nine look (base_all z) l b)

  -- ---- a choice

  within : (l b : Bool) (n m p : ℕ) (x y : Commands) (t : Walked)
      → noted_all six_at nine n y (noted_all six_at nine n x (deep_at six_at nine m p (walk_all look (base_all y) l b (walk_all look (base_all x) l b t)))) ≡ read look inside n y l b (read look inside n x l b (deep_at six_at nine m p t))
  within l b n m p x y t =
      ap (λ (s : Walked). noted_all six_at nine n y (noted_all six_at nine n x s)) (list-deep l b y m p (walk_all look (base_all x) l b t) ∙ ap (walk_all look (base_all y) l b) (list-deep l b x m p t))
      ∙ ap (noted_all six_at nine n y) (list_in l b y n x (walk_all look (base_all x) l b (deep_at six_at nine m p t)))

  -- no note changes how many nodes there are
  nine_nodes : (q : ℕ) (s : Walked) → (nine q s).marks.nodes ≡ s.marks.nodes
  nine_nodes q s = by inside
    where
      by : (c : Bool) → (nine_in c q s).marks.nodes ≡ s.marks.nodes
      by true = refl
      by false = refl

  nodes_kept : (l b : Bool) (n m p : ℕ) (x : Commands) (t : Walked) → (read look inside n x l b (deep_at six_at nine m p t)).marks.nodes ≡ (walk_all look (base_all x) l b t).marks.nodes
  nodes_kept l b n m p x t =
      ap (λ (s : Walked). (noted_all six_at nine n x s).marks.nodes) (sym (list-deep l b x m p t))
      ∙ noted-keeps six_at nine (λ s. s.marks.nodes) (λ q s. refl) nine_nodes n x (deep_at six_at nine m p (walk_all look (base_all x) l b t))
      ∙ deep_passes six_at nine (λ (q k : ℕ). k) (λ (q k : ℕ). k) (λ s. s.marks.nodes) (λ q s. refl) nine_nodes m p (walk_all look (base_all x) l b t) ∙ by (ltb most_levels m)
    where
      by : (c : Bool) {k : ℕ} → cond c k k ≡ k
      by true = refl
      by false = refl

  pub read-choice : (n p : ℕ) (e : Term) (x y : Commands) (l b : Bool) (w : Walked) (t : Test) (s : Walked)
      → t ≡ test_at look (base_term e) p (begun_at look p w) → s ≡ read look inside (suc n) x l b (deep_at six_at nine (suc n + levels_in e) p t.state)
      → read look inside n (alone (unexpanded.choice p e x y)) l b w ≡ finished w.marks.nodes 6 p t.root s.marks.nodes t.looks 0 (read look inside (suc n) y l b s)
  unfolding noted base walk finished
  read-choice n p e x y l b w t s f g =
      let v = test_at look (base_term e) p (begun_at look p w) in
      let u = walk_all look (base_all x) l b v.state in
      let fin : Walked → Walked = λ (r : Walked). finished w.marks.nodes 6 p v.root u.marks.nodes v.looks 0 r in
      ap (λ (r : Walked). noted_all six_at nine (suc n) y (noted_all six_at nine (suc n) x r)) (deep_in fin (λ q r. refl) (λ q r. refl) (suc n + levels_in e) p (walk_all look (base_all y) l b u))
      ∙ ap (noted_all six_at nine (suc n) y) (notes_in fin (λ q r. refl) (λ q r. refl) (suc n) x _)
      ∙ notes_in fin (λ q r. refl) (λ q r. refl) (suc n) y _
      ∙ ap fin (within l b (suc n) (suc n + levels_in e) p x y v.state)
      ∙ ap (λ (k : ℕ). finished w.marks.nodes 6 p v.root k v.looks 0 (read look inside (suc n) y l b (read look inside (suc n) x l b (deep_at six_at nine (suc n + levels_in e) p v.state)))) (sym (nodes_kept l b (suc n) (suc n + levels_in e) p x v.state))
      ∙ sym (ap (λ (r : Walked). finished w.marks.nodes 6 p t.root r.marks.nodes t.looks 0 (read look inside (suc n) y l b r)) g
      ∙ ap (λ (k : Test). finished w.marks.nodes 6 p k.root (read look inside (suc n) x l b (deep_at six_at nine (suc n + levels_in e) p k.state)).marks.nodes k.looks 0 (read look inside (suc n) y l b (read look inside (suc n) x l b (deep_at six_at nine (suc n + levels_in e) p k.state)))) f)

  -- ---- a list that a statement holds, with what ends the statement behind it

  module _ (fin : Walked → Walked) (six-by : (p : ℕ) (s : Walked) → fin (six_at p s) ≡ six_at p (fin s)) (nine-by : (p : ℕ) (s : Walked) → fin (nine_at p s) ≡ nine_at p (fin s)) where
    held : (l b : Bool) (n m p : ℕ) (x : Commands) (t : Walked)
        → noted_all six_at nine n x (deep_at six_at nine m p (fin (walk_all look (base_all x) l b t))) ≡ fin (read look inside n x l b (deep_at six_at nine m p t))
    held l b n m p x t =
        ap (noted_all six_at nine n x) (deep_in fin six-by nine-by m p (walk_all look (base_all x) l b t) ∙ ap fin (list-deep l b x m p t))
        ∙ notes_in fin six-by nine-by n x (walk_all look (base_all x) l b (deep_at six_at nine m p t))

    held-tests : (l b : Bool) (n m p : ℕ) (ts : Tests) (t : Walked)
        → noted_tests six_at nine n ts (deep_at six_at nine m p (fin (walk_cases look (base_tests ts) l b t))) ≡ fin (read_tests look inside n ts l b (deep_at six_at nine m p t))
    held-tests l b n m p ts t =
        ap (noted_tests six_at nine n ts) (deep_in fin six-by nine-by m p (walk_cases look (base_tests ts) l b t)
        ∙ ap fin (deep_in (walk_cases look (base_tests ts) l b) (cases_six look (base_tests ts) l b) (cases_nine look (base_tests ts) l b) m p t))
        ∙ sym (tests_pass six_at nine six_at nine fin six-by (in_call inside fin nine-by) n ts (walk_cases look (base_tests ts) l b (deep_at six_at nine m p t)))

    held-each : (l : Bool) (n m p : ℕ) (bs : Strands) (t : Walked)
        → noted_each six_at nine n bs (deep_at six_at nine m p (fin (walk_each look (base_each bs) l t))) ≡ fin (read_each look inside n bs l (deep_at six_at nine m p t))
    held-each l n m p bs t =
        ap (noted_each six_at nine n bs) (deep_in fin six-by nine-by m p (walk_each look (base_each bs) l t)
        ∙ ap fin (deep_in (walk_each look (base_each bs) l) (each_six look (base_each bs) l) (each-nine look (base_each bs) l) m p t))
        ∙ sym (each_passes six_at nine six_at nine fin six-by (in_call inside fin nine-by) n bs (walk_each look (base_each bs) l (deep_at six_at nine m p t)))

  pub read-while : (n p : ℕ) (e : Term) (x : Commands) (l b : Bool) (w : Walked) (t : Test)
      → t ≡ test_at look (base_term e) p (begun_at look p w)
      → read look inside n (alone (unexpanded.while p e x)) l b w ≡ finished w.marks.nodes 7 p t.root 0 t.looks 0 (read look inside (suc n) x true b (deep_at six_at nine (suc n + levels_in e) p t.state))
  unfolding noted base walk finished
  read-while n p e x l b w t f =
      let v = test_at look (base_term e) p (begun_at look p w) in
      held (finished w.marks.nodes 7 p v.root 0 v.looks 0) (λ q r. refl) (λ q r. refl) true b (suc n) (suc n + levels_in e) p x v.state
      ∙ sym (ap (λ (k : Test). finished w.marks.nodes 7 p k.root 0 k.looks 0 (read look inside (suc n) x true b (deep_at six_at nine (suc n + levels_in e) p k.state))) f)

  pub read-loop : (n p : ℕ) (x : Commands) (l b : Bool) (w : Walked)
      → read look inside n (alone (unexpanded.loop p x)) l b w ≡ finished w.marks.nodes 8 p 0 0 0 0 (read look inside (suc n) x true b (deep_at six_at nine (suc n) p (begun_at look p w)))
  unfolding noted base walk finished
  read-loop n p x l b w = held (finished w.marks.nodes 8 p 0 0 0 0) (λ q r. refl) (λ q r. refl) true b (suc n) (suc n) p x (begun_at look p w)

  pub read-switch : (n p : ℕ) (ts : Tests) (l b : Bool) (w : Walked)
      → read look inside n (alone (unexpanded.switch p ts)) l b w ≡ finished w.marks.nodes 11 p 0 0 0 0 (read_tests look inside (suc n) ts l true (deep_at six_at nine (suc n) p (begun_at look p w)))
  unfolding noted base walk finished
  read-switch n p ts l b w = held-tests (finished w.marks.nodes 11 p 0 0 0 0) (λ q r. refl) (λ q r. refl) l true (suc n) (suc n) p ts (begun_at look p w)

  pub read-parallel : (n p : ℕ) (bs : Strands) (l b : Bool) (w r : Walked)
      → r ≡ read_each look inside (suc n) bs l (deep_at six_at nine (suc n) p (walked (with_acts (begun w.marks p) 0) w.bytes))
      → read look inside n (alone (unexpanded.parallel p bs)) l b w ≡ finished w.marks.nodes 12 p 0 0 0 0 (walked (together r.marks w.marks.acts p) r.bytes)
  unfolding noted base walk finished
  read-parallel n p bs l b w r f =
      let fin : Walked → Walked = λ (u : Walked). finished w.marks.nodes 12 p 0 0 0 0 (walked (together u.marks w.marks.acts p) u.bytes) in
      held-each fin
      (λ q u. ap (λ (m : Marks). finished w.marks.nodes 12 p 0 0 0 0 (walked m u.bytes)) (together_touch (λ x. min x q) (λ x. x) (swap q) still same same-apart u.marks w.marks.acts p))
      (λ q u. ap (λ (m : Marks). finished w.marks.nodes 12 p 0 0 0 0 (walked m u.bytes)) (together_touch (λ x. x) (λ x. min x q) still (swap q) same same-apart u.marks w.marks.acts p))
      l (suc n) (suc n) p bs (walked (with_acts (begun w.marks p) 0) w.bytes)
      ∙ ap fin (sym f)

  pub read_strand : (n : ℕ) (x : Commands) (bs : Strands) (l : Bool) (w : Walked)
      → read_each look inside n (unexpanded.◌∥◌ x bs) l w ≡ read_each look inside n bs l (branched w.marks (read look inside n x l true (walked (with_acts w.marks 1) w.bytes)))
  unfolding noted base walk branched with_acts
  read_strand n x bs l w =
      let u = walked (with_acts w.marks 1) w.bytes in
      ap (noted_each six_at nine n bs)
      (notes_in (λ r. walk_each look (base_each bs) l (branched w.marks r))
      (λ q s. each_six look (base_each bs) l q (branched w.marks s))
      (λ q s. each-nine look (base_each bs) l q (branched w.marks s)) n x (walk_all look (base_all x) l true u))

  pub read-case : (n p : ℕ) (e : Term) (x : Commands) (ts : Tests) (l b : Bool) (w : Walked) (t : Test) (s : Walked)
      → t ≡ test_at look (base_term e) p (walked (cased w.marks) w.bytes) → s ≡ read look inside n x l b (deep_at six_at nine (n + levels_in e) p t.state)
      → read_tests look inside n (unexpanded.case p e x ts) l b w ≡ read_tests look inside n ts l b (finished w.marks.nodes 13 p t.root s.marks.nodes t.looks 0 s)
  unfolding noted base walk finished
  read-case n p e x ts l b w t s f g =
      let v = test_at look (base_term e) p (walked (cased w.marks) w.bytes) in
      let u = walk_all look (base_all x) l b v.state in
      let d = deep_at six_at nine (n + levels_in e) p in
      let fin : Walked → Walked = λ (r : Walked). finished w.marks.nodes 13 p v.root u.marks.nodes v.looks 0 r in
      ap (noted_tests six_at nine n ts)
      (held (λ r. walk_cases look (base_tests ts) l b (fin r))
      (λ q r. cases_six look (base_tests ts) l b q (fin r))
      (λ q r. cases_nine look (base_tests ts) l b q (fin r)) l b n (n + levels_in e) p x v.state)
      ∙ ap (λ (k : ℕ). read_tests look inside n ts l b (finished w.marks.nodes 13 p v.root k v.looks 0 (read look inside n x l b (d v.state)))) (sym (nodes_kept l b n (n + levels_in e) p x v.state))
      ∙ sym (ap (λ (r : Walked). read_tests look inside n ts l b (finished w.marks.nodes 13 p t.root r.marks.nodes t.looks 0 r)) g
      ∙ ap (λ (k : Test). read_tests look inside n ts l b (finished w.marks.nodes 13 p k.root (read look inside n x l b (d k.state)).marks.nodes k.looks 0 (read look inside n x l b (d k.state)))) f)
