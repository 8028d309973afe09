-- Sums that wrap round have the low bits of the exact value, for any width.
use Rattle.std.proofs.Common.{◌≡◌, ℕ, ◌+◌, ◌-◌, ◌%◌, ◌^◌, ◌<◌, ◌≤◌, true, List, ℤ, sym, refl, ap, ◌∙◌, arith}
use Rattle.meaning.specs.Tree.{Expr, arithmetic}
use Rattle.meaning.specs.Numbers.{Variable, Reads, low_bits, whole_of, value}
use Rattle.meaning.proofs.LowBits.{low-lt, low_sum, low_difference, low_of_low}
use Rattle.nodes.specs.Layout.{half_at, part_base, kind_at}
use Rattle.nodes.specs.Decode.{sum, expr_at}
use Rattle.nodes.specs.Fit.{size_of, Fit}
use Rattle.nodes.specs.declared.Sum.{Sum}
use Rattle.nodes.specs.declared.Sum.TheVariants.{Plus, Minus, Times, Quotient, Remainder}
use Rattle.nodes.proofs.Laws.{expr_opened, expr_empty}
use Rattle.std.specs.Prelude.{Option, Some}
use Rattle.value.specs.Row.{adds, term_of}
use Rattle.value.proofs.Laws.{no_bool, adds-size, added}
use Rattle.sums.specs.Wrapped.{RightSide, joined_of}

-- ---- the width

-- 32 bits hold those of every width
pub any_width : (z : ℤ) {x : ℕ} → x ≡ low_bits 32 z → (w : ℕ) → w ≤ 32 → x % 2 ^ w ≡ low_bits w z
any_width z e w h = ap (λ (y : ℕ). y % 2 ^ w) e ∙ sym (low_of_low w 32 z h)

-- ---- one operator

pub taken : (x y r : ℕ) → x < 4294967296 → y < 4294967296 → r < 4294967296 → (r + y) % 2 ^ 32 ≡ x → r ≡ (x + (2 ^ 32 - y)) % 2 ^ 32
taken x y r h k l e = omega arith

-- x and the row a + b, or a - b
pub row_wraps : (o : Sum) (p : ℕ) (a b : Expr Variable) (r : Reads) (x : ℕ) {y : ℕ} → adds o ≡ true → y ≡ low_bits 32 (whole_of (value b r))
    → (joined_of o x y + low_bits 32 (whole_of (value a r))) % 2 ^ 32 ≡ (x + low_bits 32 (whole_of (value (arithmetic (sum o) p a b) r))) % 2 ^ 32
unfolding value
row_wraps Plus p a b r x e f = omega (arith, f, low_sum 32 (whole_of (value a r)) (whole_of (value b r)))
row_wraps Minus p a b r x e f = omega (arith, f, low_difference 32 (whole_of (value a r)) (whole_of (value b r)))
row_wraps Times p a b r x e f = no_bool e
row_wraps Quotient p a b r x e f = no_bool e
row_wraps Remainder p a b r x e f = no_bool e

pub alone : (z : ℤ) → (0 + low_bits 32 z) % 2 ^ 32 ≡ low_bits 32 z
alone z = omega (arith, low-lt 32 z)

-- ---- no part at all

none_right : (left : ℕ) (t : List ℕ) (j : ℕ) (r : Reads) → left ≡ 0 → 0 ≡ low_bits 32 (whole_of (value (expr_at left t j) r))
unfolding value
none_right left t j r e = rw (expr_empty left t j e)

pub none_added : (left : ℕ) (t : List ℕ) (j : ℕ) (r : Reads) (x : ℕ) → x < 4294967296 → left ≡ 0
    → x ≡ (x + low_bits 32 (whole_of (value (expr_at left t j) r))) % 2 ^ 32
none_added left t j r x h e = omega (arith, none_right left t j r e)

-- ---- a row of `+` and `-` in the tree

module _ (left : ℕ) (t : List ℕ) (j : ℕ) {n : Option (Sum × ℕ × ℕ)} {o : Sum} {a b : ℕ} (h : left ≡ 0 → ⊥) (k : n ≡ term_of (kind_at t j)) (e : n ≡ Some (o, a, b)) where
  abbrev first : Expr Variable
  first = expr_at (left - 1) t a

  abbrev second : Expr Variable
  second = expr_at (left - 1) t b

  abbrev place : ℕ
  place = half_at t (part_base j + 2)

  row-adds : adds o ≡ true
  row-adds = (added (kind_at t j) (sym k ∙ e)).1

  row_opens : expr_at left t j ≡ arithmetic (sum o) place first second
  row_opens = expr_opened left t j h refl (added (kind_at t j) (sym k ∙ e)).0

  pub first-right : Fit (expr_at left t j) → RightSide first
  unfolding Fit
  first-right f =
      let g : Fit (arithmetic (sum o) place first second) = rw row_opens at f in
      (omega (arith, g.0, adds-size o (size_of first) (size_of second) row-adds), (g.1.0, g.1.1.1.0))

  pub second-right : Fit (expr_at left t j) → RightSide second
  unfolding Fit
  second-right f =
      let g : Fit (arithmetic (sum o) place first second) = rw row_opens at f in
      (omega (arith, g.0, adds-size o (size_of first) (size_of second) row-adds), (g.1.1.0, g.1.1.1.1))

  -- s is what the second operand leaves of x
  pub row-right : (r : Reads) (x : ℕ) {y s : ℕ} → y ≡ low_bits 32 (whole_of (value second r)) → s ≡ joined_of o x y
      → (s + low_bits 32 (whole_of (value first r))) % 2 ^ 32 ≡ (x + low_bits 32 (whole_of (value (expr_at left t j) r))) % 2 ^ 32
  row-right r x {y} {s} f g =
      ap (λ (z : ℕ). (z + low_bits 32 (whole_of (value first r))) % 2 ^ 32) g
      ∙ row_wraps o place first second r x row-adds f
      ∙ ap (λ (z : Expr Variable). (x + low_bits 32 (whole_of (value z r))) % 2 ^ 32) (sym row_opens)
