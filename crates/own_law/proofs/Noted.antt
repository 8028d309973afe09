-- What a reader notes of an expansion is what procedures add to the faults of its base tree, so the least places tell the program's fault.
-- Assumes nothing.
use mathlib.Core.Path.{◌≡◌, refl, sym, ap, subst, ◌∙◌}
use mathlib.Core.Bool.{Bool, true, false, cond}
use mathlib.Core.List.{List, [], ◌∷◌, ◌++◌}
use mathlib.Core.Option.{Option, none, some}
use Prim.Native.Nat.{ℕ, suc, ◌+◌, ◌≤◌, min, max}
use native.Mathlib.Omega.{arith}
use borrow.Author.Tests.{ltb-true, ltb-false, lt-ltb, le-ltb}
use lib.Dec.{ltb}
use Rattle.meaning.specs.Tree as tree
use Rattle.meaning.specs.Tree.{Name, Stmts}
use Rattle.meaning.specs.Declared.{Source}
use Rattle.meaning.specs.Names.{when, name_faults}
use Rattle.meaning.specs.Kinds.{kind_faults}
use Rattle.meaning.specs.Jumps.{jump_faults}
use Rattle.meaning.specs.Sizes.{size_faults}
use Rattle.meaning.specs.Worst.{worst_faults}
use Rattle.meaning.specs.Faults.{Fault, least, earliest, fault_with}
use Rattle.meaning.specs.Levels.{most_levels, levels_in, too_deep, level_fault, level_faults, level_tests, level_each}
use Rattle.meaning.specs.Unexpanded.{Term, literal, truth, variable, bit, not, int, arithmetic, comparison, logic, parens, instead, no_name, Command, skip, delay, change, assign, choice, while, loop, exit, break, switch, parallel, call, passing, Commands, end, ◌⨾◌, Tests, default, case, Strands, ◌∥◌, Unexpanded}
use Rattle.meaning.specs.Unexpanded as unexpanded
use Rattle.meaning.specs.Base.{head_at, idle, base, base_all}
use Rattle.meaning.specs.Expansion.{Bound, followed_by, alone, expand, expand_all, expanded_body, expanded}
use Rattle.meaning.specs.Procedures.{clashes, found_in, found_all, found_tests, found_each, calls_refused, calls_passing, added_names, added_sizes, fault_in}
use Rattle.own_law.specs.Noted.{deep_at, noted_term, noted, noted_all, noted_tests, noted_each, read_by, InOrder, Places, tell_at, tell_by, Below, Least}

module _ {S : Type 0} (six nine : ℕ → S → S) where
  -- ---- whatever lets a single note pass lets all of them pass

  module _ {T : Type 0} (six₁ nine₁ : ℕ → T → T) (h : S → T) (lets_six : (p : ℕ) (s : S) → h (six p s) ≡ six₁ p (h s)) (lets_nine : (p : ℕ) (s : S) → h (nine p s) ≡ nine₁ p (h s)) where
    pub deep_passes : (levels p : ℕ) (s : S) → h (deep_at six nine levels p s) ≡ deep_at six₁ nine₁ levels p (h s)
    deep_passes levels p s = by (ltb most_levels levels)
      where
        by : (b : Bool) → h (cond b (nine p s) s) ≡ cond b (nine₁ p (h s)) (h s)
        by true = lets_nine p s
        by false = refl

    mutual
      unfolding noted

      pub one_passes : (n : ℕ) (c : Command) (s : S) → h (noted six nine n c s) ≡ noted six₁ nine₁ n c (h s)
      one_passes n (skip p) s = refl
      one_passes n (delay p q d) s = refl
      one_passes n (change p c t) s = deep_passes (suc n) p s
      one_passes n (assign v e) s = deep_passes (n + levels_in e) v.place s
      one_passes n (choice p e a b) s =
          all_pass (suc n) b (noted_all six nine (suc n) a (deep_at six nine (suc n + levels_in e) p s))
          ∙ ap (noted_all six₁ nine₁ (suc n) b) (all_pass (suc n) a (deep_at six nine (suc n + levels_in e) p s) ∙ ap (noted_all six₁ nine₁ (suc n) a) (deep_passes (suc n + levels_in e) p s))
      one_passes n (while p e b) s = all_pass (suc n) b (deep_at six nine (suc n + levels_in e) p s) ∙ ap (noted_all six₁ nine₁ (suc n) b) (deep_passes (suc n + levels_in e) p s)
      one_passes n (loop p b) s = all_pass (suc n) b (deep_at six nine (suc n) p s) ∙ ap (noted_all six₁ nine₁ (suc n) b) (deep_passes (suc n) p s)
      one_passes n (exit p) s = refl
      one_passes n (break p) s = refl
      one_passes n (switch p ts) s = tests_pass (suc n) ts (deep_at six nine (suc n) p s) ∙ ap (noted_tests six₁ nine₁ (suc n) ts) (deep_passes (suc n) p s)
      one_passes n (parallel p bs) s = each_passes (suc n) bs (deep_at six nine (suc n) p s) ∙ ap (noted_each six₁ nine₁ (suc n) bs) (deep_passes (suc n) p s)
      one_passes n (call v ts) s = lets_six v.place s
      one_passes n (passing p k) s = lets_nine p s

      pub all_pass : (n : ℕ) (x : Commands) (s : S) → h (noted_all six nine n x s) ≡ noted_all six₁ nine₁ n x (h s)
      all_pass n end s = refl
      all_pass n (l ⨾ ls) s = all_pass n ls (noted six nine n l s) ∙ ap (noted_all six₁ nine₁ n ls) (one_passes n l s)

      pub tests_pass : (n : ℕ) (ts : Tests) (s : S) → h (noted_tests six nine n ts s) ≡ noted_tests six₁ nine₁ n ts (h s)
      tests_pass n (default d) s = all_pass n d s
      tests_pass n (case p e b ts) s =
          tests_pass n ts (noted_all six nine n b (deep_at six nine (n + levels_in e) p s))
          ∙ ap (noted_tests six₁ nine₁ n ts) (all_pass n b (deep_at six nine (n + levels_in e) p s) ∙ ap (noted_all six₁ nine₁ n b) (deep_passes (n + levels_in e) p s))

      pub each_passes : (n : ℕ) (bs : Strands) (s : S) → h (noted_each six nine n bs s) ≡ noted_each six₁ nine₁ n bs (h s)
      each_passes n unexpanded.none s = refl
      each_passes n (b ∥ bs) s = each_passes n bs (noted_all six nine n b s) ∙ ap (noted_each six₁ nine₁ n bs) (all_pass n b s)

-- ---- the least of places

min-swap : (p q x : ℕ) → min (min p q) x ≡ min (min p x) q
min-swap p q x = omega arith

least-append : (p : ℕ) (a b : List ℕ) → least p (a ++ b) ≡ least (least p a) b
unfolding least
least-append p [] b = refl
least-append p (q ∷ a) b = least-append (min p q) a b

least-min : (p q : ℕ) (l : List ℕ) → least (min p q) l ≡ min (least p l) q
unfolding least
least-min p q [] = refl
least-min p q (x ∷ l) = ap (λ (n : ℕ). least n l) (min-swap p q x) ∙ least-min (min p x) q l

least-swap : (n : ℕ) (a b : List ℕ) → least (least n a) b ≡ least (least n b) a
unfolding least
least-swap n a [] = refl
least-swap n a (q ∷ b) = ap (λ (x : ℕ). least x b) (sym (least-min n q a)) ∙ least-swap (min n q) a b

-- two kinds of places, one after the other or each by itself
least-two : (k : ℕ) (a b c d : List ℕ) → least (least k (a ++ b)) (c ++ d) ≡ least k ((a ++ c) ++ (b ++ d))
least-two k a b c d =
    least-append (least k (a ++ b)) c d
    ∙ ap (λ (n : ℕ). least (least n c) d) (least-append k a b)
    ∙ ap (λ (n : ℕ). least n d) (least-swap (least k a) b c)
    ∙ sym (least-append k (a ++ c) (b ++ d) ∙ least-append (least k (a ++ c)) b d ∙ ap (λ (n : ℕ). least (least n b) d) (least-append k a c))

-- ---- the least place of 6 that is noted, and that of 9

abbrev pub keep : ℕ → ℕ → ℕ
keep p k = k

abbrev pub lower : ℕ → ℕ → ℕ
lower p k = min k p

deep-keeps : (levels p k : ℕ) → deep_at lower keep levels p k ≡ k
deep-keeps levels p k = by (ltb most_levels levels)
  where
    by : (b : Bool) → cond b k k ≡ k
    by true = refl
    by false = refl

deep_lowers : (levels p k : ℕ) → deep_at keep lower levels p k ≡ least k (too_deep levels p)
unfolding least
deep_lowers levels p k = by (ltb most_levels levels)
  where
    by : (b : Bool) → cond b (min k p) k ≡ least k (when b p)
    by true = refl
    by false = refl

abbrev refused_at : Name → List ℕ
refused_at v = v.place ∷ []

abbrev no_place : {A : Type 0} → A → List ℕ
no_place a = []

abbrev passing_at : ℕ → List ℕ
passing_at p = p ∷ []

mutual
  unfolding noted found_in least

  one_six : (n : ℕ) (c : Command) (k : ℕ) → noted lower keep n c k ≡ least k (found_in refused_at no_place c)
  one_six n (skip p) k = refl
  one_six n (delay p q d) k = refl
  one_six n (change p c t) k = deep-keeps (suc n) p k
  one_six n (assign v e) k = deep-keeps (n + levels_in e) v.place k
  one_six n (choice p e a b) k =
      ap (λ (m : ℕ). noted_all lower keep (suc n) b (noted_all lower keep (suc n) a m)) (deep-keeps (suc n + levels_in e) p k)
      ∙ ap (noted_all lower keep (suc n) b) (all_six (suc n) a k) ∙ all_six (suc n) b (least k (found_all refused_at no_place a)) ∙ sym (least-append k (found_all refused_at no_place a) (found_all refused_at no_place b))
  one_six n (while p e b) k = ap (noted_all lower keep (suc n) b) (deep-keeps (suc n + levels_in e) p k) ∙ all_six (suc n) b k
  one_six n (loop p b) k = ap (noted_all lower keep (suc n) b) (deep-keeps (suc n) p k) ∙ all_six (suc n) b k
  one_six n (exit p) k = refl
  one_six n (break p) k = refl
  one_six n (switch p ts) k = ap (noted_tests lower keep (suc n) ts) (deep-keeps (suc n) p k) ∙ tests_six (suc n) ts k
  one_six n (parallel p bs) k = ap (noted_each lower keep (suc n) bs) (deep-keeps (suc n) p k) ∙ each_six (suc n) bs k
  one_six n (call v ts) k = refl
  one_six n (passing p j) k = refl

  pub all_six : (n : ℕ) (x : Commands) (k : ℕ) → noted_all lower keep n x k ≡ least k (found_all refused_at no_place x)
  all_six n end k = refl
  all_six n (l ⨾ ls) k = ap (noted_all lower keep n ls) (one_six n l k) ∙ all_six n ls (least k (found_in refused_at no_place l)) ∙ sym (least-append k (found_in refused_at no_place l) (found_all refused_at no_place ls))

  tests_six : (n : ℕ) (ts : Tests) (k : ℕ) → noted_tests lower keep n ts k ≡ least k (found_tests refused_at no_place ts)
  tests_six n (default d) k = all_six n d k
  tests_six n (case p e b ts) k =
      ap (λ (m : ℕ). noted_tests lower keep n ts (noted_all lower keep n b m)) (deep-keeps (n + levels_in e) p k)
      ∙ ap (noted_tests lower keep n ts) (all_six n b k) ∙ tests_six n ts (least k (found_all refused_at no_place b)) ∙ sym (least-append k (found_all refused_at no_place b) (found_tests refused_at no_place ts))

  each_six : (n : ℕ) (bs : Strands) (k : ℕ) → noted_each lower keep n bs k ≡ least k (found_each refused_at no_place bs)
  each_six n unexpanded.none k = refl
  each_six n (b ∥ bs) k = ap (noted_each lower keep n bs) (all_six n b k) ∙ each_six n bs (least k (found_all refused_at no_place b)) ∙ sym (least-append k (found_all refused_at no_place b) (found_each refused_at no_place bs))

mutual
  unfolding noted found_in level_fault least

  one-nine : (n : ℕ) (c : Command) (k : ℕ) → noted keep lower n c k ≡ least k (found_in no_place passing_at c ++ level_fault n c)
  one-nine n (skip p) k = refl
  one-nine n (delay p q d) k = refl
  one-nine n (change p c t) k = deep_lowers (suc n) p k
  one-nine n (assign v e) k = deep_lowers (n + levels_in e) v.place k
  one-nine n (choice p e a b) k =
      ap (λ (m : ℕ). noted_all keep lower (suc n) b (noted_all keep lower (suc n) a m)) (deep_lowers (suc n + levels_in e) p k)
      ∙ ap (noted_all keep lower (suc n) b) (all-nine (suc n) a (least k (too_deep (suc n + levels_in e) p)))
      ∙ all-nine (suc n) b (least (least k (too_deep (suc n + levels_in e) p)) (found_all no_place passing_at a ++ level_faults (suc n) a))
      ∙ least-two (least k (too_deep (suc n + levels_in e) p)) (found_all no_place passing_at a) (level_faults (suc n) a) (found_all no_place passing_at b) (level_faults (suc n) b)
      ∙ least-two k [] (too_deep (suc n + levels_in e) p) (found_all no_place passing_at a ++ found_all no_place passing_at b) (level_faults (suc n) a ++ level_faults (suc n) b)
  one-nine n (while p e b) k =
      ap (noted_all keep lower (suc n) b) (deep_lowers (suc n + levels_in e) p k) ∙ all-nine (suc n) b (least k (too_deep (suc n + levels_in e) p))
      ∙ least-two k [] (too_deep (suc n + levels_in e) p) (found_all no_place passing_at b) (level_faults (suc n) b)
  one-nine n (loop p b) k =
      ap (noted_all keep lower (suc n) b) (deep_lowers (suc n) p k) ∙ all-nine (suc n) b (least k (too_deep (suc n) p))
      ∙ least-two k [] (too_deep (suc n) p) (found_all no_place passing_at b) (level_faults (suc n) b)
  one-nine n (exit p) k = refl
  one-nine n (break p) k = refl
  one-nine n (switch p ts) k =
      ap (noted_tests keep lower (suc n) ts) (deep_lowers (suc n) p k) ∙ tests-nine (suc n) ts (least k (too_deep (suc n) p))
      ∙ least-two k [] (too_deep (suc n) p) (found_tests no_place passing_at ts) (level_tests (suc n) ts)
  one-nine n (parallel p bs) k =
      ap (noted_each keep lower (suc n) bs) (deep_lowers (suc n) p k) ∙ each-nine (suc n) bs (least k (too_deep (suc n) p))
      ∙ least-two k [] (too_deep (suc n) p) (found_each no_place passing_at bs) (level_each (suc n) bs)
  one-nine n (call v ts) k = refl
  one-nine n (passing p j) k = refl

  all-nine : (n : ℕ) (x : Commands) (k : ℕ) → noted_all keep lower n x k ≡ least k (found_all no_place passing_at x ++ level_faults n x)
  all-nine n end k = refl
  all-nine n (l ⨾ ls) k =
      ap (noted_all keep lower n ls) (one-nine n l k) ∙ all-nine n ls (least k (found_in no_place passing_at l ++ level_fault n l))
      ∙ least-two k (found_in no_place passing_at l) (level_fault n l) (found_all no_place passing_at ls) (level_faults n ls)

  tests-nine : (n : ℕ) (ts : Tests) (k : ℕ) → noted_tests keep lower n ts k ≡ least k (found_tests no_place passing_at ts ++ level_tests n ts)
  tests-nine n (default d) k = all-nine n d k
  tests-nine n (case p e b ts) k =
      ap (λ (m : ℕ). noted_tests keep lower n ts (noted_all keep lower n b m)) (deep_lowers (n + levels_in e) p k)
      ∙ ap (noted_tests keep lower n ts) (all-nine n b (least k (too_deep (n + levels_in e) p)))
      ∙ tests-nine n ts (least (least k (too_deep (n + levels_in e) p)) (found_all no_place passing_at b ++ level_faults n b))
      ∙ least-two (least k (too_deep (n + levels_in e) p)) (found_all no_place passing_at b) (level_faults n b) (found_tests no_place passing_at ts) (level_tests n ts)
      ∙ least-two k [] (too_deep (n + levels_in e) p) (found_all no_place passing_at b ++ found_tests no_place passing_at ts) (level_faults n b ++ level_tests n ts)

  each-nine : (n : ℕ) (bs : Strands) (k : ℕ) → noted_each keep lower n bs k ≡ least k (found_each no_place passing_at bs ++ level_each n bs)
  each-nine n unexpanded.none k = refl
  each-nine n (b ∥ bs) k =
      ap (noted_each keep lower n bs) (all-nine n b k) ∙ each-nine n bs (least k (found_all no_place passing_at b ++ level_faults n b))
      ∙ least-two k (found_all no_place passing_at b) (level_faults n b) (found_each no_place passing_at bs) (level_each n bs)

-- whatever no note changes
unchanged : {T : Type 0} (n : ℕ) (x : Commands) (t : T) → noted_all (λ (p : ℕ) (u : T). u) (λ (p : ℕ) (u : T). u) n x t ≡ t
unchanged {T} n x t = sym (all_pass {S = Unit} (λ p u. u) (λ p u. u) (λ p u. u) (λ p u. u) (λ u. t) (λ p u. refl) (λ p u. refl) n x tt)

-- ---- reading

module _ {S : Type 0} (six nine : ℕ → S → S) where
  noted-joined : (n : ℕ) (x y : Commands) (s : S) → noted_all six nine n (followed_by x y) s ≡ noted_all six nine n y (noted_all six nine n x s)
  unfolding noted followed_by
  noted-joined n end y s = refl
  noted-joined n (l ⨾ ls) y s = noted-joined n ls y (noted six nine n l s)

  module _ {fold : Stmts Name → S → S} (order : InOrder six nine fold) where
    fold-joined : (x y : Commands) (s : S) → fold (base_all (followed_by x y)) s ≡ fold (base_all y) (fold (base_all x) s)
    unfolding base followed_by
    fold-joined end y s = ap (fold (base_all y)) (sym (order.none s))
    fold-joined (l ⨾ ls) y s =
        order.first (base l) (base_all (followed_by ls y)) s
        ∙ fold-joined ls y (fold (tree.◌⨾◌ (base l) tree.end) s)
        ∙ ap (fold (base_all y)) (sym (order.first (base l) (base_all ls) s))

    -- one list behind the other
    pub read-joined : (n : ℕ) (x y : Commands) (s : S) → read_by six nine fold n (followed_by x y) s ≡ read_by six nine fold n y (read_by six nine fold n x s)
    read-joined n x y s =
        noted-joined n x y (fold (base_all (followed_by x y)) s)
        ∙ ap (λ (t : S). noted_all six nine n y (noted_all six nine n x t)) (fold-joined x y s)
        ∙ ap (noted_all six nine n y) (sym (all_pass six nine six nine (fold (base_all y)) (order.lets_six (base_all y)) (order.lets_nine (base_all y)) n x (fold (base_all x) s)))

    -- P4: what a statement stands for, and then the rest of its list
    pub read_behind : (n : ℕ) (calls : Name → List Term → Commands) (to : ℕ → ℕ) (bound : List (Bound Term)) (l : Command) (ls : Commands) (s : S)
        → read_by six nine fold n (expand_all calls to bound (l ⨾ ls)) s ≡ read_by six nine fold n (expand_all calls to bound ls) (read_by six nine fold n (expand calls to bound l) s)
    unfolding expand
    read_behind n calls to bound l ls s = read-joined n (expand calls to bound l) (expand_all calls to bound ls) s

  module _ (fold : Stmts Name → S → S) where
    -- P7: a refused call is a skip, and 6
    pub read-refused : (n : ℕ) (v : Name) (ts : List Term) (s : S) → read_by six nine fold n (alone (call v ts)) s ≡ six v.place (fold (tree.◌⨾◌ (tree.skip (head_at v.place)) tree.end) s)
    unfolding noted base
    read-refused n v ts s = refl

    -- P13, P14: one that passes a size is a parallel of so many skips, and 9
    pub read-passing : (n p k : ℕ) (s : S) → read_by six nine fold n (alone (passing p k)) s ≡ nine p (fold (tree.◌⨾◌ (tree.parallel (head_at p) (idle p k)) tree.end) s)
    unfolding noted base
    read-passing n p k s = refl

  -- what neither note changes stays
  pub noted-keeps : {T : Type 0} (h : S → T) → ((p : ℕ) (s : S) → h (six p s) ≡ h s) → ((p : ℕ) (s : S) → h (nine p s) ≡ h s) → (n : ℕ) (x : Commands) (s : S) → h (noted_all six nine n x s) ≡ h s
  noted-keeps {T} h by-six by-nine n x s = all_pass six nine (λ (p : ℕ) (u : T). u) (λ (p : ℕ) (u : T). u) h by-six by-nine n x s ∙ unchanged n x (h s)

  -- ---- the least places behind what was noted

  module _ (places : Places six nine) (n : ℕ) (x : Commands) (s : S) where
    pub noted_six : places.six_of (noted_all six nine n x s) ≡ least (places.six_of s) (calls_refused x)
    noted_six = all_pass six nine lower keep places.six_of places.six_at_lem places.six_by_nine n x s ∙ all_six n x (places.six_of s)

    pub noted-nine : places.nine_of (noted_all six nine n x s) ≡ least (places.nine_of s) (calls_passing x ++ level_faults n x)
    noted-nine = all_pass six nine keep lower places.nine_of places.nine_by_six places.nine_at_lem n x s ∙ all-nine n x (places.nine_of s)

    pub noted_seven : places.seven_of (noted_all six nine n x s) ≡ places.seven_of s
    noted_seven = noted-keeps places.seven_of (λ p t. (places.others_by_six p t).0) (λ p t. (places.others_by_nine p t).0) n x s

    pub noted-eight : places.eight_of (noted_all six nine n x s) ≡ places.eight_of s
    noted-eight = noted-keeps places.eight_of (λ p t. (places.others_by_six p t).1.0) (λ p t. (places.others_by_nine p t).1.0) n x s

    pub noted_ten : places.ten_of (noted_all six nine n x s) ≡ places.ten_of s
    noted_ten = noted-keeps places.ten_of (λ p t. (places.others_by_six p t).1.1) (λ p t. (places.others_by_nine p t).1.1) n x s

-- ---- which fault is told

module _ (top : ℕ) where
  least-low : (p : ℕ) (l : List ℕ) → least p l ≤ p
  unfolding least
  least-low p [] = omega arith
  least-low p (q ∷ l) = omega (arith, least-low (min p q) l)

  earliest-told : (number n : ℕ) (l : List ℕ) (a b : Option Fault) → Least top l n → a ≡ b → earliest number l a ≡ tell_at top number n b
  unfolding least
  earliest-told number n [] a b x e = e ∙ ap (λ (k : Bool). cond k (some (record { number = number; place = n })) b) (sym (le-ltb n top (omega (arith, x.least_is))))
  earliest-told number n (p ∷ l) a b x e =
      let h = x.below.0 in
      let q : min top p ≡ p = omega (arith, h) in
      let r : n ≡ least p l = x.least_is ∙ ap (λ (k : ℕ). least k l) q in
      ap (λ (k : ℕ). some (record { number = number; place = k })) (sym r) ∙ ap (λ (k : Bool). cond k (some (record { number = number; place = n })) b) (sym (lt-ltb n top (omega (arith, h, r, least-low p l))))

  pub fault-told : (names sizes : List ℕ) (s : Source) (a b c d e : ℕ)
      → Least top (names ++ name_faults s) a → Least top (kind_faults s) b → Least top (jump_faults s) c → Least top (sizes ++ size_faults s) d → Least top (worst_faults s) e
      → fault_with names sizes s ≡ tell_by top a b c d e
  unfolding tell_by
  fault-told names sizes s a b c d e n₆ n₇ n₈ n₉ n₁₀ =
      earliest-told 6 a (names ++ name_faults s) _ _ n₆
      (earliest-told 7 b (kind_faults s) _ _ n₇ (earliest-told 8 c (jump_faults s) _ _ n₈ (earliest-told 9 d (sizes ++ size_faults s) _ _ n₉ (earliest-told 10 e (worst_faults s) none none n₁₀ refl))))

  below_both : (a b : List ℕ) → Below top a → Below top b → Below top (a ++ b)
  below_both [] b h k = k
  below_both (p ∷ a) b h k = (h.0, below_both a b h.1 k)

  below_split : (a b : List ℕ) → Below top (a ++ b) → Below top a × Below top b
  below_split [] b h = (tt, h)
  below_split (p ∷ a) b h = let r = below_split a b h.1 in ((h.0, r.0), r.1)

  -- places noted later, wherever they stand in the list
  least_more : (a b c : List ℕ) (n : ℕ) → Least top (a ++ c) n → Below top b → Least top ((a ++ b) ++ c) (least n b)
  least_more a b c n h k =
      let (x, y) = below_split a c h.below in
      record {
        least_is =
            ap (λ (m : ℕ). least m b) (h.least_is ∙ least-append top a c) ∙ least-swap (least top a) c b
            ∙ sym (least-append top (a ++ b) c ∙ ap (λ (m : ℕ). least m c) (least-append top a b));
        below = below_both (a ++ b) c (below_both a b x k) y;
      }

-- ---- a program read to its end

module _ {S : Type 0} (six nine : ℕ → S → S) (top : ℕ) (places : Places six nine) (fold : Stmts Name → S → S) (w : Unexpanded) (s : S) where
  -- with what is noted of the base tree alone
  abbrev pub of_base : S
  of_base = fold (base_all (expanded_body w)) s

  -- .. and of all
  abbrev pub of_all : S
  of_all = read_by six nine fold 0 (expanded_body w) s

  -- the least places of the base tree's faults, and places of a text
  pub record BaseNoted : Type 0 where
    pub names : Least top (clashes [] [] w.declared ++ name_faults (expanded w)) (places.six_of of_base)
    pub kinds : Least top (kind_faults (expanded w)) (places.seven_of of_base)
    pub jumps : Least top (jump_faults (expanded w)) (places.eight_of of_base)
    pub sizes : Least top (size_faults (expanded w)) (places.nine_of of_base)
    pub worst : Least top (worst_faults (expanded w)) (places.ten_of of_base)
    pub refused : Below top (calls_refused (expanded_body w))
    pub added : Below top (added_sizes w)

  -- R1: what is noted of all tells the fault
  pub fault-read : BaseNoted → fault_in w ≡ tell_by top (places.six_of of_all) (places.seven_of of_all) (places.eight_of of_all) (places.nine_of of_all) (places.ten_of of_all)
  unfolding fault_in
  fault-read b =
      fault-told top (added_names w) (added_sizes w) (expanded w) _ _ _ _ _
      (subst (Least top (added_names w ++ name_faults (expanded w))) (sym (noted_six six nine places 0 (expanded_body w) of_base)) (least_more top (clashes [] [] w.declared) (calls_refused (expanded_body w)) (name_faults (expanded w)) (places.six_of of_base) b.names b.refused))
      (subst (Least top (kind_faults (expanded w))) (sym (noted_seven six nine places 0 (expanded_body w) of_base)) b.kinds)
      (subst (Least top (jump_faults (expanded w))) (sym (noted-eight six nine places 0 (expanded_body w) of_base)) b.jumps)
      (subst (Least top (added_sizes w ++ size_faults (expanded w))) (sym (noted-nine six nine places 0 (expanded_body w) of_base)) (least_more top [] (added_sizes w) (size_faults (expanded w)) (places.nine_of of_base) b.sizes b.added))
      (subst (Least top (worst_faults (expanded w))) (sym (noted_ten six nine places 0 (expanded_body w) of_base)) b.worst)

-- ---- levels noted as they open

module _ {S : Type 0} (six nine : ℕ → S → S) (p : ℕ) (once : (s : S) → nine p (nine p s) ≡ nine p s) where
  deep_twice : (a b : ℕ) (s : S) → deep_at six nine a p (deep_at six nine b p s) ≡ deep_at six nine (max a b) p s
  deep_twice a b s = by (ltb most_levels a) (ltb most_levels b) refl refl
    where
      by : (j k : Bool) → ltb most_levels a ≡ j → ltb most_levels b ≡ k → cond j (nine p (cond k (nine p s) s)) (cond k (nine p s) s) ≡ deep_at six nine (max a b) p s
      by true true e f = once s ∙ sym (ap (λ (c : Bool). cond c (nine p s) s) (lt-ltb most_levels (max a b) (omega (arith, ltb-true most_levels a e))))
      by true false e f = sym (ap (λ (c : Bool). cond c (nine p s) s) (lt-ltb most_levels (max a b) (omega (arith, ltb-true most_levels a e))))
      by false true e f = sym (ap (λ (c : Bool). cond c (nine p s) s) (lt-ltb most_levels (max a b) (omega (arith, ltb-true most_levels b f))))
      by false false e f = sym (ap (λ (c : Bool). cond c (nine p s) s) (le-ltb most_levels (max a b) (omega (arith, ltb-false most_levels a e, ltb-false most_levels b f))))

  at_levels : (a b : ℕ) (s : S) → a ≡ b → deep_at six nine a p s ≡ deep_at six nine b p s
  at_levels a b s e = ap (λ (m : ℕ). deep_at six nine m p s) e

  leaf-levels : (n : ℕ) (s : S) → deep_at six nine n p s ≡ deep_at six nine (n + 0) p s
  leaf-levels n s = at_levels n (n + 0) s (omega arith)

  -- behind the levels open around
  pub term_levels : (n : ℕ) (e : Term) (s : S) → noted_term six nine n p e (deep_at six nine n p s) ≡ deep_at six nine (n + levels_in e) p s
  unfolding noted_term levels_in
  term_levels n (literal q x) s = leaf-levels n s
  term_levels n (truth q b) s = leaf-levels n s
  term_levels n (variable v) s = leaf-levels n s
  term_levels n (bit v k) s = leaf-levels n s
  term_levels n (not q e) s = ap (noted_term six nine (suc n) p e) (deep_twice (suc n) n s ∙ at_levels (max (suc n) n) (suc n) s (omega arith)) ∙ term_levels (suc n) e s ∙ at_levels (suc n + levels_in e) (n + suc (levels_in e)) s (omega arith)
  term_levels n (int q e) s = ap (noted_term six nine (suc n) p e) (deep_twice (suc n) n s ∙ at_levels (max (suc n) n) (suc n) s (omega arith)) ∙ term_levels (suc n) e s ∙ at_levels (suc n + levels_in e) (n + suc (levels_in e)) s (omega arith)
  term_levels n (arithmetic o q a b) s =
      ap (noted_term six nine n p b) (term_levels n a s ∙ sym (deep_twice n (n + levels_in a) s ∙ at_levels (max n (n + levels_in a)) (n + levels_in a) s (omega arith)))
      ∙ term_levels n b (deep_at six nine (n + levels_in a) p s) ∙ deep_twice (n + levels_in b) (n + levels_in a) s ∙ at_levels (max (n + levels_in b) (n + levels_in a)) (n + max (levels_in a) (levels_in b)) s (omega arith)
  term_levels n (comparison o q a b) s =
      ap (noted_term six nine n p b) (term_levels n a s ∙ sym (deep_twice n (n + levels_in a) s ∙ at_levels (max n (n + levels_in a)) (n + levels_in a) s (omega arith)))
      ∙ term_levels n b (deep_at six nine (n + levels_in a) p s) ∙ deep_twice (n + levels_in b) (n + levels_in a) s ∙ at_levels (max (n + levels_in b) (n + levels_in a)) (n + max (levels_in a) (levels_in b)) s (omega arith)
  term_levels n (logic o q a b) s =
      ap (noted_term six nine n p b) (term_levels n a s ∙ sym (deep_twice n (n + levels_in a) s ∙ at_levels (max n (n + levels_in a)) (n + levels_in a) s (omega arith)))
      ∙ term_levels n b (deep_at six nine (n + levels_in a) p s) ∙ deep_twice (n + levels_in b) (n + levels_in a) s ∙ at_levels (max (n + levels_in b) (n + levels_in a)) (n + max (levels_in a) (levels_in b)) s (omega arith)
  term_levels n (parens e) s = ap (noted_term six nine (suc n) p e) (deep_twice (suc n) n s ∙ at_levels (max (suc n) n) (suc n) s (omega arith)) ∙ term_levels (suc n) e s ∙ at_levels (suc n + levels_in e) (n + suc (levels_in e)) s (omega arith)
  term_levels n (instead e) s = ap (noted_term six nine (suc n) p e) (deep_twice (suc n) n s ∙ at_levels (max (suc n) n) (suc n) s (omega arith)) ∙ term_levels (suc n) e s ∙ at_levels (suc n + levels_in e) (n + suc (levels_in e)) s (omega arith)
  term_levels n (no_name q) s = leaf-levels n s
