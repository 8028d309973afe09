-- The activities that a procedure can have are those of its call's expansion, up to nine, where no call in that is refused.
-- Assumes nothing.
use mathlib.Core.Path.{◌≡◌, refl, sym, ap, ap₂, ◌∙◌}
use mathlib.Core.Bool.{Bool, true, false, cond}
use mathlib.Core.List.{List, [], ◌∷◌, ◌++◌, map, append_assoc}
use Prim.Native.Nat.{ℕ, zero, suc, ◌+◌, ◌≤◌, max, min}
use native.Mathlib.Omega.{arith}
use Rattle.meaning.specs.Tree.{Name}
use Rattle.meaning.specs.Clock.{activities, activities_all, activities_cases, activities_sum}
use Rattle.meaning.specs.Declared.{same_bytes}
use Rattle.meaning.specs.Unexpanded.{Term, Command, skip, delay, change, assign, choice, while, loop, exit, break, switch, parallel, call, passing, Commands, end, ◌⨾◌, Tests, default, case, Strands, ◌∥◌, Procedure}
use Rattle.meaning.specs.Unexpanded as unexpanded
use Rattle.meaning.specs.Base.{idle, base, base_all, base_tests, base_each}
use Rattle.meaning.specs.Expansion.{Bound, bind, replaced, moved, same_count, allowed_by, followed_by, alone, expand, expand_all, expand_tests, expand_each, called, Wide, wide_call, wide, wide_all, wide_tests, wide_sum, wides}
use Rattle.meaning.specs.Procedures.{found_in, found_tests, found_each, calls_refused}
use Rattle.meaning.proofs.Lists.{not_empty, both-empty}

abbrev nine : ℕ → ℕ
nine n = min 9 n

abbrev act : Commands → ℕ
act x = activities_all (base_all x)

two : (a b x y : ℕ) → a ≡ nine x → b ≡ nine y → max a b ≡ nine (max x y)
two a b x y e f = omega arith

cap-one : (x : ℕ) → max (nine x) 1 ≡ nine (max x 1)
cap-one x = omega arith

over_one : (a b : ℕ) → 1 ≤ b → max a b ≡ max (max a 1) b
over_one a b h = omega arith

regroup : (a b : ℕ) → max (max a b) 1 ≡ max a (max b 1)
regroup a b = omega arith

added : (a s x t : ℕ) → a ≡ nine x → nine s ≡ nine t → nine (a + s) ≡ nine (x + t)
added a s x t e f = omega arith

nine-some : (n x : ℕ) → n ≡ nine x → 1 ≤ x → 1 ≤ n
nine-some n x e h = omega arith

act_some : (x : Commands) → 1 ≤ act x
unfolding activities base
act_some end = omega arith
act_some (l ⨾ ls) = omega (arith, act_some ls)

act_joined : (x y : Commands) → act (followed_by x y) ≡ max (act x) (act y)
unfolding activities base followed_by
act_joined end y = omega (arith, act_some y)
act_joined (l ⨾ ls) y = omega (arith, act_joined ls y)

abbrev of_call : Name → List ℕ
of_call v = v.place ∷ []

abbrev of_passing : ℕ → List ℕ
of_passing p = []

left-joined : (x y : Commands) → calls_refused (followed_by x y) ≡ calls_refused x ++ calls_refused y
unfolding found_in followed_by
left-joined end y = refl
left-joined (l ⨾ ls) y = ap (λ (r : List ℕ). found_in of_call of_passing l ++ r) (left-joined ls y) ∙ sym (append_assoc (found_in of_call of_passing l) (calls_refused ls) (calls_refused y))

same_count_lem : (ns : List Name) (f : Term → Term) (ts : List Term) → same_count ns (map f ts) ≡ same_count ns ts
unfolding same_count
same_count_lem [] f [] = refl
same_count_lem [] f (t ∷ ts) = refl
same_count_lem (n ∷ ns) f [] = refl
same_count_lem (n ∷ ns) f (t ∷ ts) = same_count_lem ns f ts

wide-count : (ws : List Wide) (to : ℕ → ℕ) (v : Name) (f : Term → Term) (ts : List Term) → wide_call ws (moved to v) (map f ts) ≡ wide_call ws v ts
unfolding wide_call
wide-count [] to v f ts = refl
wide-count (x ∷ ws) to v f ts = ap₂ (λ (b : Bool) (n : ℕ). cond (same_bytes x.name v.bytes) (cond b x.activities 1) n) (same_count_lem x.formals f ts) (wide-count ws to v f ts)

pub idle-sum : (p k : ℕ) → activities_sum (idle p k) ≡ k
unfolding activities idle
idle-sum p zero = refl
idle-sum p (suc k) = omega (arith, idle-sum p k)

module _ (ws : List Wide) (calls : Name → List Term → Commands) (right : (v : Name) (ts : List Term) → calls_refused (calls v ts) ≡ [] → wide_call ws v ts ≡ nine (act (calls v ts))) (to : ℕ → ℕ) (bound : List (Bound Term)) where
  mutual
    unfolding wide activities base expand followed_by found_in

    line-wide : (l : Command) → calls_refused (expand calls to bound l) ≡ [] → max (wide ws l) 1 ≡ nine (act (expand calls to bound l))
    line-wide (skip p) e = refl
    line-wide (delay p q n) e = refl
    line-wide (change p c t) e = refl
    line-wide (assign v x) e = refl
    line-wide (choice p x a b) e =
        let (f, g) = both-empty (calls_refused (expand_all calls to bound a) ++ calls_refused (expand_all calls to bound b)) [] e in
        let (h, i) = both-empty (calls_refused (expand_all calls to bound a)) (calls_refused (expand_all calls to bound b)) f in
        ap (λ (n : ℕ). max n 1) (two (wide_all ws a) (wide_all ws b) (act (expand_all calls to bound a)) (act (expand_all calls to bound b)) (lines_wide a h) (lines_wide b i)) ∙ cap-one (max (act (expand_all calls to bound a)) (act (expand_all calls to bound b)))
    line-wide (while p x b) e =
        let (f, g) = both-empty (calls_refused (expand_all calls to bound b)) [] e in
        ap (λ (n : ℕ). max n 1) (lines_wide b f) ∙ cap-one (act (expand_all calls to bound b))
    line-wide (loop p b) e =
        let (f, g) = both-empty (calls_refused (expand_all calls to bound b)) [] e in
        ap (λ (n : ℕ). max n 1) (lines_wide b f) ∙ cap-one (act (expand_all calls to bound b))
    line-wide (exit p) e = refl
    line-wide (break p) e = refl
    line-wide (switch p ts) e =
        let (f, g) = both-empty (found_tests of_call of_passing (expand_tests calls to bound ts)) [] e in
        tests-wide ts f
    line-wide (parallel p bs) e =
        let (f, g) = both-empty (found_each of_call of_passing (expand_each calls to bound bs)) [] e in
        ap (λ (n : ℕ). max n 1) (each-wide bs f) ∙ cap-one (activities_sum (base_each (expand_each calls to bound bs)))
    line-wide (call v ts) e =
        let r = right (moved to v) (map (replaced to bound) ts) e in
        let s = wide-count ws to v (replaced to bound) ts in
        omega (arith, r, s, act_some (calls (moved to v) (map (replaced to bound) ts)))
    line-wide (passing p k) e = omega (arith, idle-sum (to p) k)

    pub lines_wide : (ls : Commands) → calls_refused (expand_all calls to bound ls) ≡ [] → wide_all ws ls ≡ nine (act (expand_all calls to bound ls))
    lines_wide end e = refl
    lines_wide (l ⨾ ls) e =
        let (f, g) = both-empty (calls_refused (expand calls to bound l)) (calls_refused (expand_all calls to bound ls)) (sym (left-joined (expand calls to bound l) (expand_all calls to bound ls)) ∙ e) in
        over_one (wide ws l) (wide_all ws ls) (nine-some (wide_all ws ls) (act (expand_all calls to bound ls)) (lines_wide ls g) (act_some (expand_all calls to bound ls)))
        ∙ two (max (wide ws l) 1) (wide_all ws ls) (act (expand calls to bound l)) (act (expand_all calls to bound ls)) (line-wide l f) (lines_wide ls g)
        ∙ ap nine (sym (act_joined (expand calls to bound l) (expand_all calls to bound ls)))

    tests-wide : (ts : Tests) → found_tests of_call of_passing (expand_tests calls to bound ts) ≡ [] → max (wide_tests ws ts) 1 ≡ nine (max (activities_cases (base_tests (expand_tests calls to bound ts))) 1)
    tests-wide (default d) e = ap (λ (n : ℕ). max n 1) (lines_wide d e) ∙ cap-one (act (expand_all calls to bound d))
    tests-wide (case p x b ts) e =
        let (f, g) = both-empty (calls_refused (expand_all calls to bound b)) (found_tests of_call of_passing (expand_tests calls to bound ts)) e in
        regroup (wide_all ws b) (wide_tests ws ts)
        ∙ two (wide_all ws b) (max (wide_tests ws ts) 1) (act (expand_all calls to bound b)) (max (activities_cases (base_tests (expand_tests calls to bound ts))) 1) (lines_wide b f) (tests-wide ts g)
        ∙ ap nine (sym (regroup (act (expand_all calls to bound b)) (activities_cases (base_tests (expand_tests calls to bound ts)))))

    each-wide : (bs : Strands) → found_each of_call of_passing (expand_each calls to bound bs) ≡ [] → nine (wide_sum ws bs) ≡ nine (activities_sum (base_each (expand_each calls to bound bs)))
    each-wide unexpanded.none e = refl
    each-wide (b ∥ bs) e =
        let (f, g) = both-empty (calls_refused (expand_all calls to bound b)) (found_each of_call of_passing (expand_each calls to bound bs)) e in
        added (wide_all ws b) (wide_sum ws bs) (act (expand_all calls to bound b)) (activities_sum (base_each (expand_each calls to bound bs))) (lines_wide b f) (each-wide bs g)

left_one : (v : Name) (ts : List Term) → calls_refused (alone (call v ts)) ≡ [] → ⊥
unfolding found_in
left_one v ts e = not_empty e

choose : (v : Name) (ts : List Term) (b c d : Bool) (x y : Commands) (m n : ℕ) → (calls_refused x ≡ [] → m ≡ nine (act x)) → (calls_refused y ≡ [] → n ≡ nine (act y))
    → calls_refused (cond b (cond c (cond d x (alone (call v ts))) (alone (call v ts))) y) ≡ [] → cond b (cond c m 1) n ≡ nine (act (cond b (cond c (cond d x (alone (call v ts))) (alone (call v ts))) y))
choose v ts true true true x y m n f g e = f e
choose v ts true true false x y m n f g e = absurd (left_one v ts e)
choose v ts true false d x y m n f g e = absurd (left_one v ts e)
choose v ts false c d x y m n f g e = g e

pub call-wide : (ps : List Procedure) (at : ℕ) (v : Name) (ts : List Term) → calls_refused (called ps at v ts) ≡ [] → wide_call (wides ps) v ts ≡ nine (act (called ps at v ts))
unfolding called wides wide_call
call-wide [] at v ts e = absurd (left_one v ts e)
call-wide (p ∷ ps) at v ts e =
    choose v ts (same_bytes p.name.bytes v.bytes) (same_count p.formals ts) (allowed_by (bind p.formals ts) p.body)
    _ (called ps at v ts) (wide_all (wides ps) p.body) (wide_call (wides ps) v ts)
    (λ f. lines_wide (wides ps) (called ps at) (λ w us g. call-wide ps at w us g) _ (bind p.formals ts) p.body f) (λ f. call-wide ps at v ts f) e
