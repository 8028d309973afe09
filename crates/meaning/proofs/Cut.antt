-- How many statements, or parts, an expansion has, counted up to a limit without making it: once the limit is reached nothing more is looked at.
-- Assumes nothing.
use mathlib.Core.Path.{◌≡◌, refl, sym, ap, ◌∙◌}
use mathlib.Core.Bool.{Bool, true, false, cond}
use mathlib.Core.List.{List, [], ◌∷◌, map}
use Prim.Native.Nat.{ℕ, ◌+◌, ◌*◌, ◌≤◌, min}
use native.Mathlib.Omega.{arith}
use borrow.Author.Tests.{leb-true}
use lib.Dec.{leb}
use Rattle.meaning.specs.Tree.{Name}
use Rattle.meaning.specs.Declared.{same_bytes}
use Rattle.meaning.specs.Unexpanded.{Term, Command, skip, delay, change, assign, choice, while, loop, exit, break, switch, parallel, call, passing, Commands, end, ◌⨾◌, Tests, default, case, Strands, ◌∥◌, Procedure}
use Rattle.meaning.specs.Unexpanded as unexpanded
use Rattle.meaning.specs.Expansion.{Bound, bind, replaced, moved, followed_by, alone, expand, expand_all, expand_tests, expand_each, called}
use Rattle.meaning.proofs.Actuals.{bind-known, as_many, as_many_lem}
use Rattle.meaning.proofs.Summaries.{Summary, summary, summed, summary_by, summaries_right, suits_all, all_suit}

-- ---- what an expansion weighs: so much for each statement, and what `weigh` says for each expression

module _ (unit : ℕ) (weigh : Term → ℕ) where
  unfoldable mutual
    pub weight : Command → ℕ
    weight (skip p) = unit
    weight (delay p q n) = unit
    weight (change p c t) = unit
    weight (assign v e) = unit + weigh e
    weight (choice p e a b) = unit + weigh e + (weight_all a + weight_all b)
    weight (while p e b) = unit + weigh e + weight_all b
    weight (loop p b) = unit + weight_all b
    weight (exit p) = unit
    weight (break p) = unit
    weight (switch p ts) = unit + weight_tests ts
    weight (parallel p bs) = unit + weight_each bs
    weight (call v ts) = unit
    weight (passing p k) = unit + k * unit

    pub weight_all : Commands → ℕ
    weight_all end = 0
    weight_all (l ⨾ ls) = weight l + weight_all ls

    pub weight_tests : Tests → ℕ
    weight_tests (default d) = weight_all d
    weight_tests (case p e b ts) = weigh e + (weight_all b + weight_tests ts)

    pub weight_each : Strands → ℕ
    weight_each unexpanded.none = 0
    weight_each (b ∥ bs) = weight_all b + weight_each bs

  pub weight_joined : (x y : Commands) → weight_all (followed_by x y) ≡ weight_all x + weight_all y
  unfolding followed_by weight
  weight_joined end y = omega arith
  weight_joined (l ⨾ ls) y = omega (arith, weight_joined ls y)

-- ---- counted up to `most`, from c on, by what is known of the actuals

module _ (most unit : ℕ) (weighBy : List (Bound Summary) → Term → ℕ) where
  abbrev pub more : ℕ → ℕ → ℕ
  more c n = min most (c + n)

  module _ (calls : List ℕ → List Summary → ℕ → ℕ) (ks : List (Bound Summary)) where
    unfoldable mutual
      pub up_to : Command → ℕ → ℕ
      up_to (skip p) c = more c unit
      up_to (delay p q n) c = more c unit
      up_to (change p d t) c = more c unit
      up_to (assign v e) c = more c (unit + weighBy ks e)
      up_to (choice p e a b) c = up_to_all b (up_to_all a (more c (unit + weighBy ks e)))
      up_to (while p e b) c = up_to_all b (more c (unit + weighBy ks e))
      up_to (loop p b) c = up_to_all b (more c unit)
      up_to (exit p) c = more c unit
      up_to (break p) c = more c unit
      up_to (switch p ts) c = up_to_tests ts (more c unit)
      up_to (parallel p bs) c = up_to_each bs (more c unit)
      up_to (call v ts) c = calls v.bytes (map (summary_by ks) ts) c
      up_to (passing p k) c = more c (unit + k * unit)

      -- once the limit is reached nothing more is looked at
      pub up_to_all : Commands → ℕ → ℕ
      up_to_all end c = c
      up_to_all (l ⨾ ls) c = cond (leb most c) most (up_to_all ls (up_to l c))

      pub up_to_tests : Tests → ℕ → ℕ
      up_to_tests (default d) c = up_to_all d c
      up_to_tests (case p e b ts) c = up_to_tests ts (up_to_all b (more c (weighBy ks e)))

      pub up_to_each : Strands → ℕ → ℕ
      up_to_each unexpanded.none c = c
      up_to_each (b ∥ bs) c = up_to_each bs (up_to_all b c)

  unfoldable pub called_up_to : List Procedure → List ℕ → List Summary → ℕ → ℕ
  called_up_to [] x ss c = more c unit
  called_up_to (p ∷ ps) x ss c =
      cond (same_bytes p.name.bytes x)
      (cond (as_many p.formals ss)
      (cond (suits_all (bind p.formals ss) p.body) (up_to_all (called_up_to ps) (bind p.formals ss) p.body c) (more c unit))
      (more c unit))
      (called_up_to ps x ss c)

-- ---- it is the weight of the expansion, up to the limit

module _ (most unit : ℕ) (weigh : Term → ℕ) (weighBy : List (Bound Summary) → Term → ℕ) (right : (to : ℕ → ℕ) (bound : List (Bound Term)) (t : Term) → weigh (replaced to bound t) ≡ weighBy (summed bound) t) where
  on : (c n k r s : ℕ) → r ≡ min most (c + n) → s ≡ min most (r + k) → s ≡ min most (c + (n + k))
  on c n k r s e f = omega arith

  grouped : (c n k m : ℕ) → min most (c + (n + k + m)) ≡ min most (c + (n + (k + m)))
  grouped c n k m = ap (λ (i : ℕ). min most (c + i)) (omega arith)

  none_more : (c : ℕ) → c ≤ most → c ≡ min most (c + 0)
  none_more c h = omega arith

  inside : (c n r : ℕ) → r ≡ min most (c + n) → r ≤ most
  inside c n r e = omega arith

  stopped : (b : Bool) (c n r : ℕ) → leb most c ≡ b → c ≤ most → (r ≡ min most (c + n)) → cond b most r ≡ min most (c + n)
  stopped true c n r e h f = omega (arith, leb-true most c e)
  stopped false c n r e h f = f

  module _ (calls : Name → List Term → Commands) (counts : List ℕ → List Summary → ℕ → ℕ)
      (same : (v : Name) (ts : List Term) (c : ℕ) → c ≤ most → counts v.bytes (map summary ts) c ≡ min most (c + weight_all unit weigh (calls v ts)))
      (to : ℕ → ℕ) (bound : List (Bound Term)) where
    one : (n c : ℕ) → min most (c + n) ≡ min most (c + (n + 0))
    one n c = omega arith

    with_term : (e : Term) (c : ℕ) → min most (c + (unit + weighBy (summed bound) e)) ≡ min most (c + (unit + weigh (replaced to bound e)))
    with_term e c = ap (λ (n : ℕ). min most (c + (unit + n))) (sym (right to bound e))

    mutual
      unfolding weight up_to expand followed_by

      up : (l : Command) (c : ℕ) → c ≤ most → up_to most unit weighBy counts (summed bound) l c ≡ min most (c + weight_all unit weigh (expand calls to bound l))
      up (skip p) c h = one unit c
      up (delay p q n) c h = one unit c
      up (change p d t) c h = one unit c
      up (assign v e) c h = with_term e c ∙ one (unit + weigh (replaced to bound e)) c
      up (choice p e a b) c h =
          let e0 = with_term e c in
          let e1 = up_all a _ (inside c _ _ e0) in
          let e2 = up_all b _ (inside _ _ _ e1) in
          on c _ _ _ _ (on c _ _ _ _ e0 e1) e2 ∙ grouped c _ _ _ ∙ one _ c
      up (while p e b) c h =
          let e0 = with_term e c in
          let e1 = up_all b _ (inside c _ _ e0) in
          on c _ _ _ _ e0 e1 ∙ one _ c
      up (loop p b) c h = on c unit _ _ _ refl (up_all b (min most (c + unit)) (inside c unit _ refl)) ∙ one _ c
      up (exit p) c h = one unit c
      up (break p) c h = one unit c
      up (switch p ts) c h = on c unit _ _ _ refl (up_tests ts (min most (c + unit)) (inside c unit _ refl)) ∙ one _ c
      up (parallel p bs) c h = on c unit _ _ _ refl (up_each bs (min most (c + unit)) (inside c unit _ refl)) ∙ one _ c
      up (call v ts) c h = ap (λ (ss : List Summary). counts v.bytes ss c) (sym (summaries_right to bound ts)) ∙ same (moved to v) (map (replaced to bound) ts) c h
      up (passing p k) c h = one (unit + k * unit) c

      up_all : (ls : Commands) (c : ℕ) → c ≤ most → up_to_all most unit weighBy counts (summed bound) ls c ≡ min most (c + weight_all unit weigh (expand_all calls to bound ls))
      up_all end c h = none_more c h
      up_all (l ⨾ ls) c h =
          let e1 = up l c h in
          let e2 = up_all ls _ (inside c _ _ e1) in
          stopped (leb most c) c _ _ refl h (on c _ _ _ _ e1 e2 ∙ ap (λ (n : ℕ). min most (c + n)) (sym (weight_joined unit weigh (expand calls to bound l) (expand_all calls to bound ls))))

      up_tests : (ts : Tests) (c : ℕ) → c ≤ most → up_to_tests most unit weighBy counts (summed bound) ts c ≡ min most (c + weight_tests unit weigh (expand_tests calls to bound ts))
      up_tests (default d) c h = up_all d c h
      up_tests (case p e b ts) c h =
          let e0 : min most (c + weighBy (summed bound) e) ≡ min most (c + weigh (replaced to bound e)) = ap (λ (n : ℕ). min most (c + n)) (sym (right to bound e)) in
          let e1 = up_all b _ (inside c _ _ e0) in
          let e2 = up_tests ts _ (inside _ _ _ e1) in
          on c _ _ _ _ (on c _ _ _ _ e0 e1) e2 ∙ grouped c _ _ _

      up_each : (bs : Strands) (c : ℕ) → c ≤ most → up_to_each most unit weighBy counts (summed bound) bs c ≡ min most (c + weight_each unit weigh (expand_each calls to bound bs))
      up_each unexpanded.none c h = none_more c h
      up_each (b ∥ bs) c h =
          let e1 = up_all b c h in
          let e2 = up_each bs _ (inside c _ _ e1) in
          on c _ _ _ _ e1 e2

  left : (c : ℕ) (v : Name) (ts : List Term) → min most (c + unit) ≡ min most (c + weight_all unit weigh (alone (call v ts)))
  unfolding weight
  left c v ts = omega arith

  choose : (c : ℕ) (v : Name) (ts : List Term) (b1 b2 b3 : Bool) (x y : Commands) (r s : ℕ) → r ≡ min most (c + weight_all unit weigh x) → s ≡ min most (c + weight_all unit weigh y)
      → cond b1 (cond b2 (cond b3 r (min most (c + unit))) (min most (c + unit))) s
      ≡ min most (c + weight_all unit weigh (cond b1 (cond b2 (cond b3 x (alone (call v ts))) (alone (call v ts))) y))
  choose c v ts true true true x y r s g h = g
  choose c v ts true true false x y r s g h = left c v ts
  choose c v ts true false b3 x y r s g h = left c v ts
  choose c v ts false b2 b3 x y r s g h = h

  -- what a call comes to is counted rightly
  pub called_up_to_lem : (ps : List Procedure) (at : ℕ) (v : Name) (ts : List Term) (c : ℕ) → c ≤ most
      → called_up_to most unit weighBy ps v.bytes (map summary ts) c ≡ min most (c + weight_all unit weigh (called ps at v ts))
  unfolding called_up_to called
  called_up_to_lem [] at v ts c h = left c v ts
  called_up_to_lem (p ∷ ps) at v ts c h =
      rw (as_many_lem summary p.formals ts, all_suit (bind p.formals ts) p.body, bind-known summary p.formals ts) (
      choose c v ts (same_bytes p.name.bytes v.bytes) (as_many p.formals (map summary ts)) (suits_all (bind p.formals (map summary ts)) p.body)
      _ (called ps at v ts)
      (up_to_all most unit weighBy (called_up_to most unit weighBy ps) (bind p.formals (map summary ts)) p.body c) (called_up_to most unit weighBy ps v.bytes (map summary ts) c)
      (ap (λ (k : List (Bound Summary)). up_to_all most unit weighBy (called_up_to most unit weighBy ps) k p.body c) (sym (bind-known summary p.formals ts)) ∙ up_all (called ps at) (called_up_to most unit weighBy ps) (λ w us d k. called_up_to_lem ps at w us d k) _ (bind p.formals ts) p.body c h)
      (called_up_to_lem ps at v ts c h))
