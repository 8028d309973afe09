-- The walk notes statements one after the other, so own_law's laws hold of it.
-- Assumes nothing.
use mathlib.Core.Path.{◌≡◌, refl}
use mathlib.Core.Bool.{Bool, true, false}
use mathlib.Core.List.{List}
use mathlib.Core.Option.{Option}
use Prim.Native.Nat.{ℕ, min}
use native.Mathlib.Omega.{arith}
use Rattle.meaning.specs.Tree.{Name, Stmts, Cases, Branches}
use Rattle.meaning.specs.Numbers.{Variable}
use Rattle.own_law.specs.Noted.{InOrder, Places}
use Rattle.items.specs.Walk.{Walked, walk, walk_all, walk_cases, walk_each}
use Rattle.items.specs.Under.{six_at, nine_at, nine_in}
use Rattle.order_law.proofs.Touch.{Apart, all_touch, cases_touch, each_touch}

pub swap : (p x q : ℕ) → min (min x q) p ≡ min (min x p) q
swap p x q = omega arith

pub still : (x p : ℕ) → min x p ≡ min x p
still x p = refl

-- the area is left as it is
abbrev pub same : List ℕ → List ℕ
same t = t

pub same-apart : Apart same
same-apart = record { long = λ t. refl; lets = λ t o x h. refl }

-- whatever lets a note pass lets it pass inside a call
pub in_call : (inside : Bool) (h : Walked → Walked) → ((p : ℕ) (s : Walked) → h (nine_at p s) ≡ nine_at p (h s)) → (p : ℕ) (s : Walked) → h (nine_in inside p s) ≡ nine_in inside p (h s)
in_call true h passes p s = refl
in_call false h passes p s = passes p s

module _ (look : List ℕ → Option Variable) where
  pub all_six : (v : Stmts Name) (l b : Bool) (p : ℕ) (s : Walked) → walk_all look v l b (six_at p s) ≡ six_at p (walk_all look v l b s)
  all_six v l b p s = all_touch (λ x. min x p) (λ x. x) (swap p) still same same-apart look v l b s

  pub all-nine : (v : Stmts Name) (l b : Bool) (p : ℕ) (s : Walked) → walk_all look v l b (nine_at p s) ≡ nine_at p (walk_all look v l b s)
  all-nine v l b p s = all_touch (λ x. x) (λ x. min x p) still (swap p) same same-apart look v l b s

  pub cases_six : (v : Cases Name) (l b : Bool) (p : ℕ) (s : Walked) → walk_cases look v l b (six_at p s) ≡ six_at p (walk_cases look v l b s)
  cases_six v l b p s = cases_touch (λ x. min x p) (λ x. x) (swap p) still same same-apart look v l b s

  pub cases_nine : (v : Cases Name) (l b : Bool) (p : ℕ) (s : Walked) → walk_cases look v l b (nine_at p s) ≡ nine_at p (walk_cases look v l b s)
  cases_nine v l b p s = cases_touch (λ x. x) (λ x. min x p) still (swap p) same same-apart look v l b s

  pub each_six : (v : Branches Name) (l : Bool) (p : ℕ) (s : Walked) → walk_each look v l (six_at p s) ≡ six_at p (walk_each look v l s)
  each_six v l p s = each_touch (λ x. min x p) (λ x. x) (swap p) still same same-apart look v l s

  pub each-nine : (v : Branches Name) (l : Bool) (p : ℕ) (s : Walked) → walk_each look v l (nine_at p s) ≡ nine_at p (walk_each look v l s)
  each-nine v l p s = each_touch (λ x. x) (λ x. min x p) still (swap p) same same-apart look v l s

  pub in_order : (inside l b : Bool) → InOrder six_at (nine_in inside) (λ v. walk_all look v l b)
  unfolding walk
  in_order inside l b =
      record {
        none = λ s. refl;
        first = λ v vs s. refl;
        lets_six = λ v p s. all_six v l b p s;
        lets_nine = λ v. in_call inside (walk_all look v l b) (all-nine v l b);
      }

-- the places that are told of the program's own text
abbrev pub places : Places six_at nine_at
places =
    record {
      six_of = λ w. w.marks.notes.six;
      seven_of = λ w. w.marks.notes.seven;
      eight_of = λ w. w.marks.eight;
      nine_of = λ w. w.marks.notes.nine;
      ten_of = λ w. w.marks.notes.ten;
      six_at_lem = λ p s. refl;
      nine_at_lem = λ p s. refl;
      nine_by_six = λ p s. refl;
      six_by_nine = λ p s. refl;
      others_by_six = λ p s. (refl, (refl, refl));
      others_by_nine = λ p s. (refl, (refl, refl));
    }
