-- Whatever is told of a call's expansion by a walk is told without it, by what is known of the actuals.
-- Assumes nothing.
use mathlib.Core.Path.{◌≡◌, refl, sym, ap, ap₂, ◌∙◌, fun_ext}
use mathlib.Core.Bool.{Bool, true, false, cond}
use mathlib.Core.List.{List, [], ◌∷◌, map}
use mathlib.Core.Option.{Option, none, some}
use Prim.Native.Nat.{ℕ}
use Rattle.meaning.specs.Tree.{Name, Target, whole, part}
use Rattle.meaning.specs.Declared.{same_bytes}
use Rattle.meaning.specs.Unexpanded.{Term, Command, skip, delay, change, assign, choice, while, loop, exit, break, switch, parallel, call, passing, Commands, end, ◌⨾◌, Tests, default, case, Strands, ◌∥◌, Procedure}
use Rattle.meaning.specs.Unexpanded as unexpanded
use Rattle.meaning.specs.Expansion.{Bound, actual_of, bind, moved, changed_name, changed_whole, replaced, target_replaced, is_name, is_bit, allows_all, allowed_by, followed_by, alone, expand, expand_all, expand_tests, expand_each, called}
use Rattle.meaning.proofs.Actuals.{each_bound, if_any, actual-known, bind-known, as_many, as_many_lem}
use Rattle.expand_law.specs.Accounts.{Account, Known, known, known_by}
use Rattle.expand_law.specs.Walks.{Walk, Grouped, walk, walk_all, walk_tests, walk_each, name_by, whole_by, target_by, walk_by, walk_all_by, walk_tests_by, walk_each_by, is_name_by, is_bit_by, allowed_known, called_by}
use Rattle.expand_law.proofs.Accounts.{known-right, all_known}

module _ {A M : Type 0} (f : Account A) (w : Walk A M) (g : Grouped w) where
  -- one list after another
  pub walk-joined : (x y : Commands) → walk_all f w (followed_by x y) ≡ w.and_then (walk_all f w x) (walk_all f w y)
  unfolding walk followed_by
  walk-joined end y = sym (g.left (walk_all f w y))
  walk-joined (l ⨾ ls) y = ap (w.and_then (walk f w l)) (walk-joined ls y) ∙ sym (g.either (walk f w l) (walk_all f w ls) (walk_all f w y))

  single : (l : Command) → walk_all f w (alone l) ≡ walk f w l
  unfolding walk
  single l = g.right (walk f w l)

  module _ (at : ℕ) (bound : List (Bound Term)) where
    abbrev to : ℕ → ℕ
    to q = at

    abbrev ks : List (Bound (Known A))
    ks = each_bound (known f) bound

    name-known : (v : Name) → changed_name to v (actual_of bound v.bytes) ≡ name_by f w at v (actual_of ks v.bytes)
    name-known v = by (actual_of bound v.bytes) ∙ ap (name_by f w at v) (sym (actual-known (known f) bound v.bytes))
      where
        by : (o : Option Term) → changed_name to v o ≡ name_by f w at v (if_any (known f) o)
        by none = refl
        by (some t) = refl

    whole-known : (v : Name) → changed_whole to v (actual_of bound v.bytes) ≡ whole_by f w at v (actual_of ks v.bytes)
    whole-known v = by (actual_of bound v.bytes) ∙ ap (whole_by f w at v) (sym (actual-known (known f) bound v.bytes))
      where
        by : (o : Option Term) → changed_whole to v o ≡ whole_by f w at v (if_any (known f) o)
        by none = refl
        by (some t) = refl

    module _ (calls : Name → List Term → Commands) (counts : List ℕ → List (Known A) → M) (right : (v : Name) (ts : List Term) → v.place ≡ at → counts v.bytes (map (known f) ts) ≡ walk_all f w (calls v ts)) where
      target-known : (t : Target Name) → target_replaced to bound t ≡ target_by f w at counts ks t
      target-known (whole v) = whole-known v
      target-known (part v j) = ap (λ (u : Name). part u j) (name-known v)

      mutual
        unfolding walk walk_by expand followed_by

        one-walked : (l : Command) → walk_all f w (expand calls to bound l) ≡ walk_by f w at counts ks l
        one-walked (skip p) = single (skip (to p))
        one-walked (delay p q n) = single (delay (to p) (to q) n)
        one-walked (change p c t) = single (change (to p) c (target_replaced to bound t)) ∙ ap (w.of_change at c) (target-known t)
        one-walked (assign v e) = single (assign (changed_name to v (actual_of bound v.bytes)) (replaced to bound e)) ∙ ap₂ w.of_assign (name-known v) (known-right f to bound e)
        one-walked (choice p e a b) =
            single (choice (to p) (replaced to bound e) (expand_all calls to bound a) (expand_all calls to bound b))
            ∙ ap (λ (k : Known A). w.of_choice at k (walk_all f w (expand_all calls to bound a)) (walk_all f w (expand_all calls to bound b))) (known-right f to bound e)
            ∙ ap₂ (w.of_choice at (known_by f to ks e)) (all-walked a) (all-walked b)
        one-walked (while p e b) = single (while (to p) (replaced to bound e) (expand_all calls to bound b)) ∙ ap₂ (w.of_while at) (known-right f to bound e) (all-walked b)
        one-walked (loop p b) = single (loop (to p) (expand_all calls to bound b)) ∙ ap (w.of_loop at) (all-walked b)
        one-walked (exit p) = single (exit (to p))
        one-walked (break p) = single (break (to p))
        one-walked (switch p ts) = single (switch (to p) (expand_tests calls to bound ts)) ∙ ap (w.of_switch at) (tests-walked ts)
        one-walked (parallel p bs) = single (parallel (to p) (expand_each calls to bound bs)) ∙ ap (w.of_parallel at) (each-walked bs)
        one-walked (call v ts) = sym (right (moved to v) (map (replaced to bound) ts) refl) ∙ ap (counts v.bytes) (all_known f to bound ts)
        one-walked (passing p k) = single (passing (to p) k)

        pub all-walked : (ls : Commands) → walk_all f w (expand_all calls to bound ls) ≡ walk_all_by f w at counts ks ls
        all-walked end = refl
        all-walked (l ⨾ ls) = walk-joined (expand calls to bound l) (expand_all calls to bound ls) ∙ ap₂ w.and_then (one-walked l) (all-walked ls)

        tests-walked : (ts : Tests) → walk_tests f w (expand_tests calls to bound ts) ≡ walk_tests_by f w at counts ks ts
        tests-walked (default d) = ap w.of_default (all-walked d)
        tests-walked (case p e b ts) =
            ap (λ (k : Known A). w.of_case at k (walk_all f w (expand_all calls to bound b)) (walk_tests f w (expand_tests calls to bound ts))) (known-right f to bound e)
            ∙ ap₂ (w.of_case at (known_by f to ks e)) (all-walked b) (tests-walked ts)

        each-walked : (bs : Strands) → walk_each f w (expand_each calls to bound bs) ≡ walk_each_by f w at counts ks bs
        each-walked unexpanded.none = refl
        each-walked (b ∥ bs) = ap₂ w.of_branch (all-walked b) (each-walked bs)

  module _ (bound : List (Bound Term)) where
    is_name_lem : (x : List ℕ) → is_name (actual_of bound x) ≡ is_name_by f w (actual_of (each_bound (known f) bound) x)
    is_name_lem x = by (actual_of bound x) ∙ ap (is_name_by f w) (sym (actual-known (known f) bound x))
      where
        by : (o : Option Term) → is_name o ≡ is_name_by f w (if_any (known f) o)
        by none = refl
        by (some t) = refl

    is_bit_lem : (x : List ℕ) → is_bit (actual_of bound x) ≡ is_bit_by f w (actual_of (each_bound (known f) bound) x)
    is_bit_lem x = by (actual_of bound x) ∙ ap (is_bit_by f w) (sym (actual-known (known f) bound x))
      where
        by : (o : Option Term) → is_bit o ≡ is_bit_by f w (if_any (known f) o)
        by none = refl
        by (some t) = refl

    pub allowed_known_lem : (b : Commands) → allowed_by bound b ≡ allowed_known f w (each_bound (known f) bound) b
    allowed_known_lem b = ap₂ (λ (h k : List ℕ → Bool). allows_all h k b) (fun_ext is_name_lem) (fun_ext is_bit_lem)

  left-call : (at : ℕ) (v : Name) (ts : List Term) → v.place ≡ at → w.of_call at ≡ walk_all f w (alone (call v ts))
  unfolding walk
  left-call at v ts h = ap w.of_call (sym h) ∙ sym (single (call v ts))

  choose : (at : ℕ) (v : Name) (ts : List Term) → v.place ≡ at → (a b c : Bool) (x y : Commands) (m n : M) → m ≡ walk_all f w x → n ≡ walk_all f w y
      → cond a (cond b (cond c m (w.of_call at)) (w.of_call at)) n ≡ walk_all f w (cond a (cond b (cond c x (alone (call v ts))) (alone (call v ts))) y)
  unfolding walk
  choose at v ts h true true true x y m n d e = d
  choose at v ts h true true false x y m n d e = left-call at v ts h
  choose at v ts h true false c x y m n d e = left-call at v ts h
  choose at v ts h false b c x y m n d e = e

  -- a call's expansion, walked without being made
  pub called-walked : (ps : List Procedure) (at : ℕ) (v : Name) (ts : List Term) → v.place ≡ at → called_by f w ps at v.bytes (map (known f) ts) ≡ walk_all f w (called ps at v ts)
  unfolding called_by called walk
  called-walked [] at v ts h = left-call at v ts h
  called-walked (p ∷ ps) at v ts h =
      rw (as_many_lem (known f) p.formals ts, allowed_known_lem (bind p.formals ts) p.body, bind-known (known f) p.formals ts) (
      choose at v ts h (same_bytes p.name.bytes v.bytes) (as_many p.formals (map (known f) ts)) (allowed_known f w (bind p.formals (map (known f) ts)) p.body)
      (expand_all (called ps at) (λ q. at) (bind p.formals ts) p.body) (called ps at v ts)
      (walk_all_by f w at (called_by f w ps at) (bind p.formals (map (known f) ts)) p.body) (called_by f w ps at v.bytes (map (known f) ts))
      (ap (λ (k : List (Bound (Known A))). walk_all_by f w at (called_by f w ps at) k p.body) (sym (bind-known (known f) p.formals ts))
      ∙ sym (all-walked at (bind p.formals ts) (called ps at) (called_by f w ps at) (λ u us k. called-walked ps at u us k) p.body))
      (called-walked ps at v ts h))
