-- The size that the sum of an expression has is the worst size, capped one past the limit; so its 10 is the definition's.
-- Assumes nothing.
use mathlib.Core.Bool.{Bool, true, false, cond}
use mathlib.Core.Path.{◌≡◌, refl, sym, ◌∙◌, ap, ap₂}
use mathlib.Core.List.{List, ◌∷◌, ◌++◌}
use mathlib.Core.Option.{Option}
use Prim.Native.Nat.{ℕ, ◌+◌, ◌*◌, ◌≤◌, min}
use native.Mathlib.Nat.{min-eq_left, min-eq_right, mul-le-mul_left, mul-le-mul_right, mul-zero, zero-mul}
use native.Mathlib.Decide.{dec_le}
use native.Mathlib.Omega.{arith}
use lib.Dec.{ltb}
use borrow.Author.Tests.{lt-ltb}
use Rattle.meaning.specs.Tree.{Arithmetic, plus, minus, times, quotient, remainder, Comparison, equal, unequal, greater, less, Logic, and, or, Expr, literal, truth, variable, bit, not, int, arithmetic, comparison, logic}
use Rattle.meaning.specs.Numbers.{Variable}
use Rattle.meaning.specs.Declared.{Declaration, look_up}
use Rattle.meaning.specs.Items.{within}
use Rattle.meaning.specs.Names.{gather, when}
use Rattle.meaning.specs.Worst.{most_size, combined, worst, part_worst}
use Rattle.meaning.specs.Faults.{least}
use Rattle.language.specs.Trees.{Name}
use Rattle.parts.specs.declared.Notes.{Notes}
use Rattle.parts.specs.Sum.{Sum, sum, counted, at_six, at_seven, at_ten, leaf_sum, around_sum, join_sum, of_arithmetic, of_comparison, of_logic, cap, size_at}
use Rattle.expr_law.proofs.Least.{gather-between, least-between}

abbrev most : ℕ
most = most_size + 1

cap-low : (a : ℕ) → a ≤ most → cap a ≡ a
cap-low a h = min-eq_left h

cap-high : (a : ℕ) → most ≤ a → cap a ≡ most
cap-high a h = min-eq_right h

cap-add : (a b : ℕ) → cap (cap a + cap b) ≡ cap (a + b)
cap-add a b = go (dec_le a most) (dec_le b most)
  where
    go : Dec (a ≤ most) → Dec (b ≤ most) → cap (cap a + cap b) ≡ cap (a + b)
    go (yes h) (yes g) = rw (cap-low a h, cap-low b g) refl
    go (no h) g = let e = cap-high a (omega arith) in cap-high (cap a + cap b) (omega arith) ∙ sym (cap-high (a + b) (omega arith))
    go (yes h) (no g) = let e = cap-high b (omega arith) in cap-high (cap a + cap b) (omega arith) ∙ sym (cap-high (a + b) (omega arith))

positive : (a : ℕ) → 1 ≤ a → 1 ≤ cap a
positive a h = go (dec_le a most)
  where
    go : Dec (a ≤ most) → 1 ≤ cap a
    go (yes g) = rw (cap-low a g) h
    go (no g) = let e = cap-high a (omega arith) in omega arith

-- a product with a factor past the limit, the other not 0
large_product : (a b : ℕ) → most ≤ a → 1 ≤ b → most ≤ a * b
large_product a b h g = let k : a * 1 ≤ a * b = mul-le-mul_left a g in omega arith

large_product_2 : (a b : ℕ) → 1 ≤ a → most ≤ b → most ≤ a * b
large_product_2 a b h g = let k : 1 * b ≤ a * b = mul-le-mul_right b h in omega arith

cap-mul : (a b : ℕ) → cap (cap a * cap b) ≡ cap (a * b)
cap-mul a b = go (dec_le 1 a) (dec_le 1 b) (dec_le a most) (dec_le b most)
  where
    go : Dec (1 ≤ a) → Dec (1 ≤ b) → Dec (a ≤ most) → Dec (b ≤ most) → cap (cap a * cap b) ≡ cap (a * b)
    go (no p) q h g = let e : a ≡ 0 = omega arith in let z : cap a ≡ 0 = ap cap e ∙ cap-low 0 (omega arith) in ap cap (ap (λ (n : ℕ). n * cap b) z ∙ zero-mul (cap b) ∙ sym (zero-mul b) ∙ ap (λ (n : ℕ). n * b) (sym e))
    go (yes p) (no q) h g = let e : b ≡ 0 = omega arith in let z : cap b ≡ 0 = ap cap e ∙ cap-low 0 (omega arith) in ap cap (ap (λ (n : ℕ). cap a * n) z ∙ mul-zero (cap a) ∙ sym (mul-zero a) ∙ ap (λ (n : ℕ). a * n) (sym e))
    go (yes p) (yes q) (yes h) (yes g) = ap cap (ap₂ (λ (x y : ℕ). x * y) (cap-low a h) (cap-low b g))
    go (yes p) (yes q) (no h) g =
        cap-high (cap a * cap b) (large_product (cap a) (cap b) (omega (arith, cap-high a (omega arith))) (positive b q)) ∙ sym (cap-high (a * b) (large_product a b (omega arith) q))
    go (yes p) (yes q) (yes h) (no g) =
        cap-high (cap a * cap b) (large_product_2 (cap a) (cap b) (positive a p) (omega (arith, cap-high b (omega arith)))) ∙ sym (cap-high (a * b) (large_product_2 a b p (omega arith)))

cap-past : (a : ℕ) → ltb most_size (cap a) ≡ ltb most_size a
cap-past a = go (dec_le a most_size)
  where
    go : Dec (a ≤ most_size) → ltb most_size (cap a) ≡ ltb most_size a
    go (yes h) = ap (ltb most_size) (cap-low a (omega arith))
    go (no h) = lt-ltb most_size (cap a) (omega (arith, cap-high a (omega arith))) ∙ sym (lt-ltb most_size a (omega arith))

size-arithmetic : (o : Arithmetic) (a b : ℕ) → size_at (of_arithmetic o) (cap a) (cap b) ≡ cap (combined o a b)
unfolding size_at
size-arithmetic plus a b = cap-add a b
size-arithmetic minus a b = cap-add a b
size-arithmetic times a b = cap-mul a b
size-arithmetic quotient a b = refl
size-arithmetic remainder a b = refl

-- numbers as the words have them
abbrev pub Small : Expr Name → Type 0
Small (literal p n) = n ≤ most_size
Small (truth p b) = Unit
Small (variable v) = Unit
Small (bit v j) = Unit
Small (not p e) = Small e
Small (int p e) = Small e
Small (arithmetic o p a b) = Small a × Small b
Small (comparison o p a b) = Small a × Small b
Small (logic o p a b) = Small a × Small b

module _ (ds : List Declaration) where
  abbrev L : List ℕ → Option Variable
  L x = look_up ds x

  abbrev W : Expr Name → ℕ
  W e = worst (λ v. look_up ds v.bytes) e

  pub size_is : (e : Expr Name) (n : Notes) (t : List ℕ) → Small e → (sum L e n t).size ≡ cap (W e)
  unfolding sum leaf_sum around_sum join_sum size_at worst
  size_is (literal p x) n t s = sym (cap-low x (omega arith))
  size_is (truth p b) n t s = refl
  size_is (variable v) n t s = refl
  size_is (bit v j) n t s = refl
  size_is (not p e) n t s = refl
  size_is (int p e) n t s = refl
  size_is (arithmetic o p a b) n t s =
      ap₂ (size_at (of_arithmetic o)) (size_is a n t s.0) (size_is b (counted (sum L a n t).notes p) (sum L a n t).bytes s.1) ∙ size-arithmetic o (W a) (W b)
  size_is (comparison equal p a b) n t s = refl
  size_is (comparison unequal p a b) n t s = refl
  size_is (comparison greater p a b) n t s = refl
  size_is (comparison less p a b) n t s = refl
  size_is (logic and p a b) n t s = refl
  size_is (logic or p a b) n t s = refl

  abbrev pub ten : Expr Name → List ℕ
  ten e = gather (part_worst ds) (within e)

  ten_joined : (x a b : Expr Name) (n p m : ℕ) (u v : Bool) → part_worst ds x ≡ when v p → u ≡ v → m ≡ least (least n (ten a)) (ten b) → cond u (min m p) m ≡ least n (gather (part_worst ds) (within a ++ (x ∷ within b)))
  ten_joined x a b n p m u v e q r =
      ap (λ (i : ℕ). cond u (min i p) i) r ∙ ap (λ (c : Bool). cond c (min (least (least n (ten a)) (ten b)) p) (least (least n (ten a)) (ten b))) q
      ∙ least-between n p v (ten a) (ten b) ∙ ap (λ (l : List ℕ). least n (ten a ++ (l ++ ten b))) (sym e) ∙ ap (least n) (sym (gather-between (part_worst ds) (within a) x (within b)))

  none_of : (k a b : ℕ) → ltb k 21 ≡ true → ltb most_size (size_at k a b) ≡ false
  unfolding size_at
  none_of k a b e = rw e refl

  pub ten_is : (e : Expr Name) (n : Notes) (t : List ℕ) → Small e → (sum L e n t).notes.ten ≡ least n.ten (ten e)
  unfolding sum leaf_sum around_sum join_sum counted at_six at_seven at_ten within gather least
  ten_is (literal p x) n t s = refl
  ten_is (truth p b) n t s = refl
  ten_is (variable v) n t s = refl
  ten_is (bit v j) n t s = refl
  ten_is (not p e) n t s = ten_is e (counted n p) t s
  ten_is (int p e) n t s = ten_is e (counted n p) t s
  ten_is (arithmetic o p a b) n t s =
      let A : Sum = sum L a n t in
      let B : Sum = sum L b (counted A.notes p) A.bytes in
      ten_joined (arithmetic o p a b) a b n.ten p B.notes.ten (ltb most_size (size_at (of_arithmetic o) A.size B.size)) (ltb most_size (combined o (W a) (W b))) refl
      (ap (ltb most_size) (ap₂ (size_at (of_arithmetic o)) (size_is a n t s.0) (size_is b (counted A.notes p) A.bytes s.1) ∙ size-arithmetic o (W a) (W b)) ∙ cap-past (combined o (W a) (W b)))
      (ten_is b (counted A.notes p) A.bytes s.1 ∙ ap (λ (m : ℕ). least m (ten b)) (ten_is a n t s.0))
  ten_is (comparison o p a b) n t s =
      let A : Sum = sum L a n t in
      let B : Sum = sum L b (counted A.notes p) A.bytes in
      ten_joined (comparison o p a b) a b n.ten p B.notes.ten (ltb most_size (size_at (of_comparison o) A.size B.size)) false refl (none_of (of_comparison o) A.size B.size (below o))
      (ten_is b (counted A.notes p) A.bytes s.1 ∙ ap (λ (m : ℕ). least m (ten b)) (ten_is a n t s.0))
    where
      below : (o : Comparison) → ltb (of_comparison o) 21 ≡ true
      below equal = refl
      below unequal = refl
      below greater = refl
      below less = refl
  ten_is (logic o p a b) n t s =
      let A : Sum = sum L a n t in
      let B : Sum = sum L b (counted A.notes p) A.bytes in
      ten_joined (logic o p a b) a b n.ten p B.notes.ten (ltb most_size (size_at (of_logic o) A.size B.size)) false refl (none_of (of_logic o) A.size B.size (below o))
      (ten_is b (counted A.notes p) A.bytes s.1 ∙ ap (λ (m : ℕ). least m (ten b)) (ten_is a n t s.0))
    where
      below : (o : Logic) → ltb (of_logic o) 21 ≡ true
      below and = refl
      below or = refl
