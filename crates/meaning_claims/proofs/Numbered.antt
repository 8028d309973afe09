-- The statements and case tests of a checked program are numbered 0, 1, 2, .. in text order: no two have one number.
-- Assumes nothing.
use mathlib.Core.Path.{◌≡◌, refl, ap, ap₂, ◌∙◌}
use mathlib.Core.List.{List, [], ◌∷◌, ◌++◌}
use Prim.Native.Nat.{ℕ, zero, suc, ◌+◌}
use native.Mathlib.Omega.{arith}
use lib.ListN.{length, length-append}
use Rattle.meaning.specs.Tree.{Name, Stmt, skip, delay, change, assign, choice, while, loop, exit, break, switch, parallel, Stmts, end, ◌⨾◌, Cases, default, case, Branches, none, ◌∥◌}
use Rattle.meaning.specs.Numbers.{Variable}
use Rattle.meaning.specs.Declared.{Source}
use Rattle.meaning.specs.Items.{Item, items, items_all, items_cases, items_each}
use Rattle.meaning.specs.Checked.{variable_of, checked, checked_all, checked_cases, checked_each, program_of}

-- n, n + 1, .., so many
abbrev pub from : ℕ → ℕ → List ℕ
from n zero = []
from n (suc k) = n ∷ from (suc n) k

-- the numbers in text order
unfoldable mutual
  pub numbers : {N : Type 0} → Stmt N → List ℕ
  numbers (skip h) = h.number ∷ []
  numbers (delay h p n) = h.number ∷ []
  numbers (change h c t) = h.number ∷ []
  numbers (assign h v e) = h.number ∷ []
  numbers (choice h e a b) = h.number ∷ (numbers_all a ++ numbers_all b)
  numbers (while h e b) = h.number ∷ numbers_all b
  numbers (loop h b) = h.number ∷ numbers_all b
  numbers (exit h) = h.number ∷ []
  numbers (break h) = h.number ∷ []
  numbers (switch h cs) = h.number ∷ numbers_cases cs
  numbers (parallel h bs) = h.number ∷ numbers_each bs

  pub numbers_all : {N : Type 0} → Stmts N → List ℕ
  numbers_all end = []
  numbers_all (s ⨾ ss) = numbers s ++ numbers_all ss

  pub numbers_cases : {N : Type 0} → Cases N → List ℕ
  numbers_cases (default d) = numbers_all d
  numbers_cases (case h e b cs) = h.number ∷ (numbers_all b ++ numbers_cases cs)

  pub numbers_each : {N : Type 0} → Branches N → List ℕ
  numbers_each none = []
  numbers_each (b ∥ bs) = numbers_all b ++ numbers_each bs

from_parts : (n m a b c : ℕ) → m ≡ n + a → c ≡ a + b → from n a ++ from m b ≡ from n c
from_parts n m zero b c e f =
    let p : m ≡ n = omega arith in
    let q : b ≡ c = omega arith in
    ap₂ from p q
from_parts n m (suc a) b zero e f = absurd (omega arith)
from_parts n m (suc a) b (suc c) e f = ap (λ (l : List ℕ). n ∷ l) (from_parts (suc n) m a b c (omega arith) (omega arith))

-- two runs of numbers, one after the other, for two lists of items
joined : {p q : List ℕ} (n : ℕ) (a b : List Item) → p ≡ from n (length a) → q ≡ from (n + length a) (length b)
    → p ++ q ≡ from n (length (a ++ b))
joined n a b e f = ap₂ ◌++◌ e f ∙ from_parts n (n + length a) (length a) (length b) (length (a ++ b)) refl (length-append a b)

abbrev after : ℕ → List ℕ → List ℕ
after n l = n ∷ l

module _ (look : Name → Variable) where
  mutual
    unfolding numbers items checked

    in_order : (s : Stmt Name) (n : ℕ) → numbers (checked s look n) ≡ from n (length (items s))
    in_order (skip h) n = refl
    in_order (delay h p d) n = refl
    in_order (change h c t) n = refl
    in_order (assign h v e) n = refl
    in_order (choice h e a b) n =
        ap (after n) (joined (suc n) (items_all a) (items_all b) (in_order_all a (suc n)) (in_order_all b (suc n + length (items_all a))))
    in_order (while h e b) n = ap (after n) (in_order_all b (suc n))
    in_order (loop h b) n = ap (after n) (in_order_all b (suc n))
    in_order (exit h) n = refl
    in_order (break h) n = refl
    in_order (switch h cs) n = ap (after n) (in_order_cases cs (suc n))
    in_order (parallel h bs) n = ap (after n) (in_order_each bs (suc n))

    in_order_all : (ss : Stmts Name) (n : ℕ) → numbers_all (checked_all ss look n) ≡ from n (length (items_all ss))
    in_order_all end n = refl
    in_order_all (s ⨾ ss) n = joined n (items s) (items_all ss) (in_order s n) (in_order_all ss (n + length (items s)))

    in_order_cases : (cs : Cases Name) (n : ℕ) → numbers_cases (checked_cases cs look n) ≡ from n (length (items_cases cs))
    in_order_cases (default d) n = in_order_all d n
    in_order_cases (case h e b cs) n =
        ap (after n) (joined (suc n) (items_all b) (items_cases cs) (in_order_all b (suc n)) (in_order_cases cs (suc n + length (items_all b))))

    in_order_each : (bs : Branches Name) (n : ℕ) → numbers_each (checked_each bs look n) ≡ from n (length (items_each bs))
    in_order_each none n = refl
    in_order_each (b ∥ bs) n = joined n (items_all b) (items_each bs) (in_order_all b n) (in_order_each bs (n + length (items_all b)))

pub numbered_in_order : (s : Source) → numbers_all (program_of s).body ≡ from 0 (length (items_all s.body))
unfolding program_of
numbered_in_order s = in_order_all (variable_of s.declared) s.body 0
