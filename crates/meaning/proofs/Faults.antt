-- The fault that is told: of all faults of the tree "the lowest number wins, then the earliest place"; and there is one such only.
-- Assumes nothing.
use mathlib.Core.Path.{◌≡◌, refl, sym, ap, ap₂, ◌∙◌}
use mathlib.Core.Bool.{Bool, true, false}
use mathlib.Core.Logic.{◌⊎◌, inl, inr, ◌↔◌}
use mathlib.Core.List.Memᴰ
use mathlib.Core.List.{List, [], ◌∷◌, ◌++◌, Memᴰ}
use mathlib.Core.Option.{Option, none, some}
use Prim.Native.Nat.{ℕ, suc, ◌≤◌, ◌<◌, min}
use native.Mathlib.Nat.{min-le_left, min-le_right, min-eq_left, min-eq_right, le_refl, le_trans, le_antisymm}
use native.Mathlib.Omega.{arith}
use borrow.Author.Tests.{leb-true, leb-false}
use lib.Dec.{leb}
use Rattle.meaning.specs.Declared.{Source}
use Rattle.meaning.specs.Names.{name_faults}
use Rattle.meaning.specs.Kinds.{kind_faults}
use Rattle.meaning.specs.Jumps.{jump_faults}
use Rattle.meaning.specs.Sizes.{size_faults}
use Rattle.meaning.specs.Worst.{worst_faults}
use Rattle.meaning.specs.Faults.{Fault, least, earliest, fault_of}
use Rattle.meaning.proofs.Lists.{not_empty, both-empty}

abbrev pub fault : ℕ → ℕ → Fault
fault number place = record { number = number; place = place }

-- a fault with the number at each place
abbrev pub each : ℕ → List ℕ → List Fault
each number [] = []
each number (p ∷ ps) = fault number p ∷ each number ps

-- "All faults of the whole text are candidates": those of a tree
abbrev pub faults : Source → List Fault
faults s =
    each 6 (name_faults s)
    ++ (each 7 (kind_faults s)
    ++ (each 8 (jump_faults s)
    ++ (each 9 (size_faults s)
    ++ (each 10 (worst_faults s)
    ++ []))))

-- "The lowest number wins, then the earliest place."
abbrev pub Wins : Fault → Fault → Type 0
Wins f g = (f.number < g.number) ⊎ ((f.number ≡ g.number) × (f.place ≤ g.place))

-- one of the faults that wins against each of them; or none, where there are none
abbrev pub Told : List Fault → Option Fault → Type 0
Told l none = l ≡ []
Told l (some f) = Memᴰ f l × ((g : Fault) → Memᴰ g l → Wins f g)

-- ---- the least place

either : (p q : ℕ) → (p ≤ q) ⊎ (q ≤ p)
either p q = by (leb p q) refl
  where
    by : (t : Bool) → leb p q ≡ t → (p ≤ q) ⊎ (q ≤ p)
    by true e = inl (leb-true p q e)
    by false e = inr (omega (arith, leb-false p q e))

least_in : (p : ℕ) (ps : List ℕ) → Memᴰ (least p ps) (p ∷ ps)
unfolding least
least_in p [] = Memᴰ.head refl
least_in p (q ∷ ps) = put (either p q) (Memᴰ.cases_cons (least_in (min p q) ps))
  where
    put : (p ≤ q) ⊎ (q ≤ p) → (least (min p q) ps ≡ min p q) ⊎ Memᴰ (least (min p q) ps) ps
        → Memᴰ (least (min p q) ps) (p ∷ q ∷ ps)
    put (inl h) (inl e) = Memᴰ.head (e ∙ min-eq_left h)
    put (inr h) (inl e) = Memᴰ.tail (Memᴰ.head (e ∙ min-eq_right h))
    put t (inr m) = Memᴰ.tail (Memᴰ.tail m)

least_step : (p x low : ℕ) (ps : List ℕ) → ((q : ℕ) → Memᴰ q (min p x ∷ ps) → low ≤ q)
    → (q : ℕ) → Memᴰ q (p ∷ x ∷ ps) → low ≤ q
least_step p x low ps ih q (Memᴰ.head e) = rw e (le_trans (ih (min p x) (Memᴰ.head refl)) (min-le_left p x))
least_step p x low ps ih q (Memᴰ.tail (Memᴰ.head e)) =
    rw e (le_trans (ih (min p x) (Memᴰ.head refl)) (min-le_right p x))
least_step p x low ps ih q (Memᴰ.tail (Memᴰ.tail m)) = ih q (Memᴰ.tail m)

least-all : (p : ℕ) (ps : List ℕ) (q : ℕ) → Memᴰ q (p ∷ ps) → least p ps ≤ q
unfolding least
least-all p [] q m = rw (Memᴰ.eq_of_singleton m) (le_refl p)
least-all p (x ∷ ps) q m = least_step p x (least (min p x) ps) ps (least-all (min p x) ps) q m

-- ---- the faults of one number, before those of higher numbers

each_in_lem : {p : ℕ} (number : ℕ) (ps : List ℕ) → Memᴰ p ps → Memᴰ (fault number p) (each number ps)
each_in_lem number (q ∷ ps) (Memᴰ.head e) = Memᴰ.head (ap (fault number) e)
each_in_lem number (q ∷ ps) (Memᴰ.tail m) = Memᴰ.tail (each_in_lem number ps m)
each_in_lem {p = p} number [] x' = elim x' [ ]

each-out : (number : ℕ) (ps : List ℕ) (g : Fault) → Memᴰ g (each number ps) → (g.number ≡ number) × Memᴰ g.place ps
each-out number [] g m = absurd (Memᴰ.not-nil m)
each-out number (p ∷ ps) g (Memᴰ.head e) = (ap (λ (f : Fault). f.number) e, Memᴰ.head (ap (λ (f : Fault). f.place) e))
each-out number (p ∷ ps) g (Memᴰ.tail m) = let (e, k) = each-out number ps g m in (e, Memᴰ.tail k)

-- the fault that is told of a list, where all numbers are above n
record Known (n : ℕ) (l : List Fault) (o : Option Fault) : Type 0 where
  above : (g : Fault) → Memᴰ g l → n < g.number
  tells : Told l o

none-known : Known 10 [] none
none-known = record { above = λ g m. absurd (Memᴰ.not-nil m); tells = refl }

above_more : (n : ℕ) (ps : List ℕ) {l : List Fault} {next : Option Fault}
    → Known (suc n) l next → (g : Fault) → Memᴰ g (each (suc n) ps ++ l) → n < g.number
above_more n ps {l} k g m = part (Memᴰ.append_cases (each (suc n) ps) m)
  where
    part : Memᴰ g (each (suc n) ps) ⊎ Memᴰ g l → n < g.number
    part (inl h) = omega (arith, (each-out (suc n) ps g h).0)
    part (inr h) = omega (arith, k.above g h)

told_more : (n : ℕ) (ps : List ℕ) {l : List Fault} {next : Option Fault}
    → Known n l next → Told (each n ps ++ l) (earliest n ps next)
told_more n [] k = k.tells
told_more n (p ∷ ps) {l} k =
    (Memᴰ.append_left l (each_in_lem n (p ∷ ps) (least_in p ps)), λ g m. part g (Memᴰ.append_cases (each n (p ∷ ps)) m))
  where
    part : (g : Fault) → Memᴰ g (each n (p ∷ ps)) ⊎ Memᴰ g l → Wins (fault n (least p ps)) g
    part g (inl h) = let (e, m) = each-out n (p ∷ ps) g h in inr (sym e, least-all p ps g.place m)
    part g (inr h) = inl (k.above g h)

more : (n : ℕ) (ps : List ℕ) {l : List Fault} {next : Option Fault}
    → Known (suc n) l next → Known n (each (suc n) ps ++ l) (earliest (suc n) ps next)
more n ps k = record { above = above_more n ps k; tells = told_more (suc n) ps k }

pub told : (s : Source) → Told (faults s) (fault_of s)
unfolding fault_of
told s =
    (more 5 (name_faults s)
    (more 6 (kind_faults s)
    (more 7 (jump_faults s)
    (more 8 (size_faults s)
    (more 9 (worst_faults s)
    none-known))))
    ).tells

-- ---- one answer only

wins_both : (f g : Fault) → Wins f g → Wins g f → f ≡ g
wins_both f g (inl h) (inl k) = absurd (omega arith)
wins_both f g (inl h) (inr k) = absurd (omega (arith, k.0))
wins_both f g (inr h) (inl k) = absurd (omega (arith, h.0))
wins_both f g (inr h) (inr k) = ap₂ fault h.0 (le_antisymm h.1 k.1)

pub told_once : (l : List Fault) (o q : Option Fault) → Told l o → Told l q → o ≡ q
told_once l none none t u = refl
told_once l none (some g) t u = absurd (Memᴰ.not-nil (rw t at u.0))
told_once l (some f) none t u = absurd (Memᴰ.not-nil (rw u at t.0))
told_once l (some f) (some g) t u = ap some (wins_both f g (t.1 g u.0) (u.1 f t.0))

-- no fault is told exactly where there is none, and a fault exactly where it wins
pub told_exactly : (s : Source) (o : Option Fault) → (fault_of s ≡ o) ↔ Told (faults s) o
told_exactly s o = (λ e. rw e at (told s), λ t. told_once (faults s) (fault_of s) o (told s) t)

-- ---- a source without faults

pub record Faultless (s : Source) : Type 0 where
  pub names : name_faults s ≡ []
  pub kinds : kind_faults s ≡ []
  pub jumps : jump_faults s ≡ []
  pub sizes : size_faults s ≡ []
  pub worst : worst_faults s ≡ []

each_none : (n : ℕ) (ps : List ℕ) → each n ps ≡ [] → ps ≡ []
each_none n [] e = refl
each_none n (p ∷ ps) e = absurd (not_empty e)

split-none : (n : ℕ) (ps : List ℕ) (l : List Fault) → each n ps ++ l ≡ [] → (ps ≡ []) × (l ≡ [])
split-none n ps l e = let (p, q) = both-empty (each n ps) l e in (each_none n ps p, q)

faultless : (s : Source) → faults s ≡ [] → Faultless s
faultless s e =
    let (n, e7) = split-none 6 (name_faults s) _ e in
    let (k, e8) = split-none 7 (kind_faults s) _ e7 in
    let (j, e9) = split-none 8 (jump_faults s) _ e8 in
    let (z, e10) = split-none 9 (size_faults s) _ e9 in
    record { names = n; kinds = k; jumps = j; sizes = z; worst = (split-none 10 (worst_faults s) [] e10).0 }

pub none_exactly : (s : Source) → (fault_of s ≡ none) ↔ Faultless s
unfolding fault_of
none_exactly s = (λ e. faultless s ((told_exactly s none).0 e), λ f. rw (f.names, f.kinds, f.jumps, f.sizes, f.worst))
