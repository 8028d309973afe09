-- The least of some places, noted one after the other.
-- Assumes nothing.
use mathlib.Core.Bool.{Bool, true, false}
use mathlib.Core.Path.{◌≡◌, refl, sym, ◌∙◌, ap}
use mathlib.Core.List.{List, [], ◌∷◌, ◌++◌}
use Prim.Native.Nat.{ℕ, min, ◌≤◌}
use native.Mathlib.Nat.{min-le_left, min-le_right, le-min}
use native.Mathlib.Omega.{arith}
use Rattle.meaning.specs.Names.{when}
use Rattle.meaning.specs.Faults.{least}
use Rattle.names.specs.Enter.{noted}

pub least-append : (p : ℕ) (a b : List ℕ) → least p (a ++ b) ≡ least (least p a) b
unfolding least
least-append p [] b = refl
least-append p (q ∷ a) b = least-append (min p q) a b

min-low : (p q x : ℕ) → min (min p q) x ≤ min (min p x) q
min-low p q x =
    le-min (le-min (omega (arith, min-le_left (min p q) x, min-le_left p q)) (min-le_right (min p q) x)) (omega (arith, min-le_left (min p q) x, min-le_right p q))

min-swap : (p q x : ℕ) → min (min p q) x ≡ min (min p x) q
min-swap p q x = let a = min-low p q x in let b = min-low p x q in omega arith

pub least-min : (p q : ℕ) (l : List ℕ) → least (min p q) l ≡ min (least p l) q
unfolding least
least-min p q [] = refl
least-min p q (x ∷ l) = ap (λ (n : ℕ). least n l) (min-swap p q x) ∙ least-min (min p x) q l

-- noted before the others, or after them
pub least-noted : (b : Bool) (p x : ℕ) (l : List ℕ) → noted b p (least x l) ≡ least (noted b p x) l
least-noted true p x l = sym (least-min x p l)
least-noted false p x l = refl

pub least-when : (b : Bool) (p x : ℕ) (l : List ℕ) → least x (when b p ++ l) ≡ least (noted b p x) l
unfolding least
least-when true p x l = refl
least-when false p x l = refl

-- four lists of places
abbrev pub four : ℕ → List ℕ → List ℕ → List ℕ → List ℕ → ℕ
four x a b c d = least (least (least (least x a) b) c) d

pub four-all : (x : ℕ) (a b c d : List ℕ) → four x a b c d ≡ least x (a ++ (b ++ (c ++ d)))
four-all x a b c d =
    sym (least-append (least (least x a) b) c d) ∙ sym (least-append (least x a) b (c ++ d)) ∙ sym (least-append x a (b ++ (c ++ d)))

-- the first places of all four
pub four-push : (x p q : ℕ) (i j k l : Bool) (a b c d : List ℕ)
    → four x (when i p ++ a) (when j p ++ b) (when k p ++ c) (when l q ++ d) ≡ four (noted l q (noted k p (noted j p (noted i p x)))) a b c d
four-push x p q i j k l a b c d =
    ap (λ (y : ℕ). least (least (least y (when j p ++ b)) (when k p ++ c)) (when l q ++ d)) (least-when i p x a)
    ∙ ap (λ (y : ℕ). least (least y (when k p ++ c)) (when l q ++ d)) (into j p (noted i p x) a b)
    ∙ ap (λ (y : ℕ). least y (when l q ++ d)) (into k p (least (noted j p (noted i p x)) a) b c ∙ ap (λ (y : ℕ). least (least y b) c) (least-noted k p (noted j p (noted i p x)) a))
    ∙ (into l q (least (least (noted k p (noted j p (noted i p x))) a) b) c d
    ∙ ap (λ (y : ℕ). least (least y c) d) (least-noted l q (least (noted k p (noted j p (noted i p x))) a) b ∙ ap (λ (y : ℕ). least y b) (least-noted l q (noted k p (noted j p (noted i p x))) a)))
  where
    into : (t : Bool) (p y : ℕ) (a b : List ℕ) → least (least y a) (when t p ++ b) ≡ least (least (noted t p y) a) b
    into t p y a b = least-when t p (least y a) b ∙ ap (λ (z : ℕ). least z b) (least-noted t p y a)
