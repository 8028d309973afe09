-- What `/` and `%` are: a is the quotient times b and the rest, the rest is smaller than b and has the sign of a. Together these leave one quotient and one rest.
-- Assumes nothing.
use mathlib.Core.Path.{◌≡◌, refl, sym, ◌∙◌, ap}
use Prim.Native.Nat.{ℕ, zero, suc, ◌*◌, ◌/◌, ◌%◌, ◌<◌}
use native.Mathlib.Nat.{div-add-mod', mod-lt, zero-mul}
use native.Mathlib.Omega.{arith}
use lib.IntN.{ℤ, pos, negsuc, neg_ℤ, nat_abs, ◌+ℤ◌, ◌*ℤ◌, +ℤ_idl, neg_ℤ-+ℤ}
use Rattle.meaning.specs.Numbers.{over, rest}

-- ---- the parts, by signs

neg_times_neg : (q n : ℕ) → neg_ℤ (pos q) *ℤ negsuc n ≡ pos (q * suc n)
neg_times_neg zero n = ap (λ (x : ℕ). neg_ℤ (pos x)) (zero-mul (suc n)) ∙ ap pos (sym (zero-mul (suc n)))
neg_times_neg (suc q) n = refl

neg_times : (q n : ℕ) → neg_ℤ (pos q) *ℤ pos (suc n) ≡ neg_ℤ (pos (q * suc n))
neg_times zero n = ap pos (zero-mul (suc n)) ∙ ap (λ (x : ℕ). neg_ℤ (pos x)) (sym (zero-mul (suc n)))
neg_times (suc q) n = refl

below : (m n : ℕ) → neg_ℤ (pos (suc m / suc n * suc n)) +ℤ neg_ℤ (pos (suc m % suc n)) ≡ negsuc m
below m n =
    sym (neg_ℤ-+ℤ (pos (suc m / suc n * suc n)) (pos (suc m % suc n)))
    ∙ ap (λ (x : ℕ). neg_ℤ (pos x)) (div-add-mod' (suc m) (suc n))

abs_neg : (n : ℕ) → nat_abs (neg_ℤ (pos n)) ≡ n
abs_neg zero = refl
abs_neg (suc n) = refl

-- ---- the three sentences

pub over_and_rest : (a b : ℤ) → over a b *ℤ b +ℤ rest a b ≡ a
over_and_rest a (pos zero) = +ℤ_idl a
over_and_rest (pos m) (pos (suc n)) = ap pos (div-add-mod' m (suc n))
over_and_rest (pos m) (negsuc n) = ap (λ (x : ℤ). x +ℤ pos (m % suc n)) (neg_times_neg (m / suc n) n) ∙ ap pos (div-add-mod' m (suc n))
over_and_rest (negsuc m) (pos (suc n)) = ap (λ (x : ℤ). x +ℤ neg_ℤ (pos (suc m % suc n))) (neg_times (suc m / suc n) n) ∙ below m n
over_and_rest (negsuc m) (negsuc n) = below m n

pub rest_smaller : (a b : ℤ) → 0 < nat_abs b → nat_abs (rest a b) < nat_abs b
rest_smaller a (pos zero) h = absurd (omega arith)
rest_smaller (pos m) (pos (suc n)) h = mod-lt m h
rest_smaller (pos m) (negsuc n) h = mod-lt m h
rest_smaller (negsuc m) (pos (suc n)) h = omega (arith, mod-lt (suc m) h, abs_neg (suc m % suc n))
rest_smaller (negsuc m) (negsuc n) h = omega (arith, mod-lt (suc m) h, abs_neg (suc m % suc n))

-- the rest has the sign of a: none below zero for one that is not, none above zero for one below
pub rest_not_below : (m : ℕ) (b : ℤ) → rest (pos m) b ≡ pos (nat_abs (rest (pos m) b))
rest_not_below m (pos zero) = refl
rest_not_below m (pos (suc n)) = refl
rest_not_below m (negsuc n) = refl

pub rest_not_above : (m : ℕ) (b : ℤ) → rest (negsuc m) b ≡ neg_ℤ (pos (nat_abs (rest (negsuc m) b)))
rest_not_above m (pos zero) = refl
rest_not_above m (pos (suc n)) = ap (λ (x : ℕ). neg_ℤ (pos x)) (sym (abs_neg (suc m % suc n)))
rest_not_above m (negsuc n) = ap (λ (x : ℕ). neg_ℤ (pos x)) (sym (abs_neg (suc m % suc n)))

-- "a/0 is 0 and a%0 is a"
pub by_zero : (a : ℤ) → (over a (pos 0) ≡ pos 0) × (rest a (pos 0) ≡ a)
by_zero a = (refl, refl)
