-- A value never exceeds its worst size.
-- Assumes nothing.
use mathlib.Core.Path.{◌≡◌, refl}
use mathlib.Core.Bool.{Bool, true, false, cond}
use mathlib.Core.Option.{Option, none, some}
use Prim.Native.Nat.{ℕ, zero, suc, ◌+◌, ◌*◌, ◌/◌, ◌%◌, ◌≤◌, ◌^◌}
use native.Mathlib.Nat.{div-le_self, mod-le, mod-lt, le_refl, le_trans, mul-le-mul}
use native.Mathlib.Omega.{arith}
use lib.Dec.{ltb}
use lib.IntN.{ℤ, pos, negsuc, neg_ℤ, ◌+ℤ◌, ◌-ℤ◌, ◌*ℤ◌, nat_abs}
use lib.Pow.{pow_pos, le_ones}
use lib.Signed.{rem_z}
use Rattle.meaning.specs.Tree.{Name, Arithmetic, plus, minus, times, quotient, remainder, Expr, literal, truth, variable, bit, not, int, arithmetic, comparison, logic}
use Rattle.meaning.specs.Numbers.{Variable, input, boolean, integer, Reads, over, rest, whole_of, bool_of, compute, as_number, read, read_bit, value}
use Rattle.meaning.specs.Checked.{known, resolved}
use Rattle.meaning.specs.Worst.{variable_worst, combined, worst}

abs_cond : (t : Bool) (x y : ℤ) (n : ℕ) → nat_abs x ≤ n → nat_abs y ≤ n → nat_abs (cond t x y) ≤ n
abs_cond true x y n h k = h
abs_cond false x y n h k = k

abs_neg : (a : ℤ) → nat_abs (neg_ℤ a) ≡ nat_abs a
abs_neg (pos zero) = refl
abs_neg (pos (suc n)) = refl
abs_neg (negsuc n) = refl

abs_sum : (a b : ℤ) → nat_abs (a +ℤ b) ≤ nat_abs a + nat_abs b
abs_sum (pos a) (pos b) = omega arith
abs_sum (pos a) (negsuc b) = abs_cond (ltb a (suc b)) _ _ _ (omega arith) (omega arith)
abs_sum (negsuc a) (pos b) = abs_cond (ltb b (suc a)) _ _ _ (omega arith) (omega arith)
abs_sum (negsuc a) (negsuc b) = omega arith

abs_difference : (a b : ℤ) → nat_abs (a -ℤ b) ≤ nat_abs a + nat_abs b
abs_difference a b = omega (arith, abs_sum a (neg_ℤ b), abs_neg b)

abs_product : (a b : ℤ) → nat_abs (a *ℤ b) ≡ nat_abs a * nat_abs b
abs_product (pos a) (pos b) = refl
abs_product (pos a) (negsuc b) = abs_neg (pos (a * suc b))
abs_product (negsuc a) (pos b) = abs_neg (pos (suc a * b))
abs_product (negsuc a) (negsuc b) = refl

abs_over : (a b : ℤ) → nat_abs (over a b) ≤ nat_abs a
abs_over a (pos zero) = omega arith
abs_over (pos a) (pos (suc b)) = div-le_self a (suc b)
abs_over (negsuc a) (pos (suc b)) = omega (arith, abs_neg (pos (suc a / suc b)), div-le_self (suc a) (suc b))
abs_over (pos a) (negsuc b) = omega (arith, abs_neg (pos (a / suc b)), div-le_self a (suc b))
abs_over (negsuc a) (negsuc b) = div-le_self (suc a) (suc b)

abs_rem : (a b : ℤ) → nat_abs (rem_z a b) ≤ nat_abs a
abs_rem (pos a) b = mod-le a (nat_abs b)
abs_rem (negsuc a) b = omega (arith, abs_neg (pos (suc a % nat_abs b)), mod-le (suc a) (nat_abs b))

abs_rest : (a b : ℤ) → nat_abs (rest a b) ≤ nat_abs a
abs_rest a (pos zero) = le_refl (nat_abs a)
abs_rest a (pos (suc b)) = abs_rem a (pos (suc b))
abs_rest a (negsuc b) = abs_rem a (negsuc b)

-- one operation, with a size for each operand
abs_compute : (o : Arithmetic) (a b : ℤ) (m n : ℕ) → nat_abs a ≤ m → nat_abs b ≤ n → nat_abs (compute o a b) ≤ combined o m n
abs_compute plus a b m n h k = omega (arith, abs_sum a b)
abs_compute minus a b m n h k = omega (arith, abs_difference a b)
abs_compute times a b m n h k = rw (abs_product a b) (mul-le-mul h k)
abs_compute quotient a b m n h k = le_trans (abs_over a b) h
abs_compute remainder a b m n h k = le_trans (abs_rest a b) h

abs_read : (v : Option Variable) (r : Reads) → nat_abs (whole_of (read (known v) r)) ≤ variable_worst v
abs_read none r = omega arith
abs_read (some (input i)) r = omega arith
abs_read (some (boolean j)) r = omega arith
abs_read (some (integer low width)) r = le_ones width (mod-lt (r.word / 2 ^ low) (pow_pos width))

abs_bit : (v : Variable) (j : ℕ) (r : Reads) → nat_abs (whole_of (read_bit v j r)) ≤ 0
abs_bit (input i) j r = omega arith
abs_bit (boolean b) j r = omega arith
abs_bit (integer low width) j r = omega arith

abs_number : (b : Bool) → nat_abs (as_number b) ≤ 1
abs_number true = omega arith
abs_number false = omega arith

-- for every expression, right or wrong in its kinds, every meaning of its names, and whatever it reads
pub within-worst : (look : Name → Option Variable) (e : Expr Name) (r : Reads)
    → nat_abs (whole_of (value (resolved e (λ n. known (look n))) r)) ≤ worst look e
unfolding value resolved worst
within-worst look (literal p n) r = le_refl n
within-worst look (truth p b) r = omega arith
within-worst look (variable v) r = abs_read (look v) r
within-worst look (bit v j) r = abs_bit (known (look v)) j r
within-worst look (not p e) r = omega arith
within-worst look (int p e) r = abs_number (bool_of (value (resolved e (λ n. known (look n))) r))
within-worst look (arithmetic o p a b) r = abs_compute o _ _ _ _ (within-worst look a r) (within-worst look b r)
within-worst look (comparison o p a b) r = omega arith
within-worst look (logic o p a b) r = omega arith
