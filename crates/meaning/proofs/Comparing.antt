-- What the comparisons say: `==` is equality of numbers and of truth values, `<` and `>` are the order of the whole numbers.
-- Assumes nothing.
use mathlib.Core.Path.{◌≡◌, refl, sym, ap}
use mathlib.Core.Bool.{Bool, true, false, cond, not as opposite}
use mathlib.Core.Logic.{◌↔◌}
use Prim.Native.Nat.{ℕ, ◌<◌, ◌≤◌}
use native.Mathlib.Omega.{arith}
use lib.Dec.{ltb}
use borrow.Author.Tests.{ltb-true, ltb-false}
use lib.IntN.{ℤ, pos, negsuc}
use Rattle.meaning.specs.Tree.{equal, unequal, greater, less, and, or}
use Rattle.meaning.specs.Numbers.{Value, whole, bool, whole_of, bool_of, same_bool, same_whole, compare, combine, as_number}

-- ---- `==`

clash : {A : Type 0} → false ≡ true → A
clash e = let z : ◌≡◌ {A = ℕ} 0 1 = cc in absurd (omega arith)

neither : (m n : ℕ) → cond (ltb m n) false (opposite (ltb n m)) ≡ true → m ≡ n
neither m n = go (ltb m n) (ltb n m) refl refl
  where
    go : (a b : Bool) → ltb m n ≡ a → ltb n m ≡ b → cond a false (opposite b) ≡ true → m ≡ n
    go true b p q e = clash e
    go false true p q e = clash e
    go false false p q e = omega (arith, ltb-false m n p, ltb-false n m q)

itself : (n : ℕ) → cond (ltb n n) false (opposite (ltb n n)) ≡ true
itself n = go (ltb n n) refl
  where
    go : (a : Bool) → ltb n n ≡ a → cond a false (opposite a) ≡ true
    go true p = absurd (omega (arith, ltb-true n n p))
    go false p = refl

pub same_whole_lem : (a b : ℤ) → same_whole a b ≡ true → a ≡ b
same_whole_lem (pos m) (pos n) e = ap pos (neither m n e)
same_whole_lem (pos m) (negsuc n) e = cc
same_whole_lem (negsuc m) (pos n) e = cc
same_whole_lem (negsuc m) (negsuc n) e = ap negsuc (sym (neither n m e))

pub whole_same : (a : ℤ) → same_whole a a ≡ true
whole_same (pos n) = itself n
whole_same (negsuc n) = itself n

pub same_truth : (a b : Bool) → (same_bool a b ≡ true) ↔ (a ≡ b)
same_truth true b = (λ e. sym e, λ e. sym e)
same_truth false true = (λ e. e, λ e. e)
same_truth false false = (λ e. refl, λ e. refl)

-- ---- `<` and `>`

pub less_numbers : (m n : ℕ) → compare less (whole (pos m)) (whole (pos n)) ≡ true → m < n
less_numbers m n e = ltb-true m n e

pub not_less_numbers : (m n : ℕ) → compare less (whole (pos m)) (whole (pos n)) ≡ false → n ≤ m
not_less_numbers m n e = ltb-false m n e

-- -(m + 1) and -(n + 1)
pub less_below : (m n : ℕ) → compare less (whole (negsuc m)) (whole (negsuc n)) ≡ true → n < m
less_below m n e = ltb-true n m e

pub not_less_below : (m n : ℕ) → compare less (whole (negsuc m)) (whole (negsuc n)) ≡ false → m ≤ n
not_less_below m n e = ltb-false n m e

-- ---- the rest, by tables

pub record Tables : Type 0 where
  pub below-zero : (m n : ℕ) → compare less (whole (negsuc m)) (whole (pos n)) ≡ true
  pub not_below-zero : (m n : ℕ) → compare less (whole (pos m)) (whole (negsuc n)) ≡ false
  pub exchanged : (a b : Value) → compare greater a b ≡ compare less b a
  pub equal-numbers : (a b : ℤ) → compare equal (whole a) (whole b) ≡ same_whole a b
  pub equal_truths : (a b : Bool) → compare equal (bool a) (bool b) ≡ same_bool a b
  pub opposed : (a b : Value) → compare unequal a b ≡ opposite (compare equal a b)
  pub and_true : (b : Bool) → combine and true b ≡ b
  pub and_false : (b : Bool) → combine and false b ≡ false
  pub or_true : (b : Bool) → combine or true b ≡ true
  pub or_false : (b : Bool) → combine or false b ≡ b
  pub int-true : as_number true ≡ pos 1
  pub int-false : as_number false ≡ pos 0
  -- what a value of the wrong kind counts as; a program without a fault never asks
  pub no_number : (b : Bool) → whole_of (bool b) ≡ pos 0
  pub no_truth : (z : ℤ) → bool_of (whole z) ≡ false
  pub mixed : (z : ℤ) (b : Bool) → (compare equal (whole z) (bool b) ≡ false) × (compare equal (bool b) (whole z) ≡ false)

pub tables : Tables
tables =
    record {
      below-zero = λ m n. refl;
      not_below-zero = λ m n. refl;
      exchanged = λ a b. refl;
      equal-numbers = λ a b. refl;
      equal_truths = λ a b. refl;
      opposed = λ a b. refl;
      and_true = λ b. refl;
      and_false = λ b. refl;
      or_true = λ b. refl;
      or_false = λ b. refl;
      int-true = refl;
      int-false = refl;
      no_number = λ b. refl;
      no_truth = λ z. refl;
      mixed = λ z b. (refl, refl);
    }
