-- Small laws of powers, and of four bytes written at once, and of the low 13 bits of two bytes.
-- Assumes nothing.
use Rattle.std.proofs.Common.{◌≡◌, ℕ, zero, suc, ◌+◌, ◌*◌, ◌%◌, ◌^◌, ◌<◌, ◌≤◌, List, [], ◌∷◌, ◌++◌, length, take, drop, set, refl, ap, mul-le-mul_right, mod-lt, suc-mul, arith, pow_pos, pow-add, min, sym, ◌∙◌}
use native.Mathlib.Nat.{min_comm, min-eq_left}

pub power_low : (n : ℕ) → 1 ≤ 2 ^ n
power_low zero = omega arith
power_low (suc n) = omega (arith, power_low n)

pub power_high : (n m : ℕ) → n ≤ m → 2 ^ n ≤ 2 ^ m
power_high zero m h = power_low m
power_high (suc n) zero h = absurd (omega arith)
power_high (suc n) (suc m) h = omega (arith, power_high n m (omega arith))

pub min-low : (a b : ℕ) → a ≤ b → a ≡ min a b
min-low a b h = sym (min-eq_left h)

pub min-high : (a b : ℕ) → b ≤ a → b ≡ min a b
min-high a b h = sym (min_comm a b ∙ min-eq_left h)

-- the low w bits of a value, moved up
pub rest-fits : (v w b : ℕ) → v % 2 ^ w * 2 ^ b + 2 ^ b ≤ 2 ^ (w + b)
rest-fits v w b = omega (arith, suc-mul (v % 2 ^ w) (2 ^ b), mul-le-mul_right (2 ^ b) (mod-lt v (pow_pos w)), pow-add 2 w b)

pub product_fits : (v w b : ℕ) → b + w ≤ 32 → v % 2 ^ w * 2 ^ b < 4294967296
product_fits v w b h = omega (arith, rest-fits v w b, power_low b, power_high (w + b) 32 (omega arith))

four : (t : List ℕ) (b w x y z : ℕ) → b + 4 ≤ length t → take b t ++ (w ∷ x ∷ y ∷ z ∷ drop 4 (drop b t)) ≡ set (set (set (set t b w) (suc b) x) (suc (suc b)) y) (suc (suc (suc b))) z
four [] b w x y z h = absurd (omega arith)
four (a ∷ []) zero w x y z h = absurd (omega arith)
four (a ∷ c ∷ []) zero w x y z h = absurd (omega arith)
four (a ∷ c ∷ d ∷ []) zero w x y z h = absurd (omega arith)
four (a ∷ c ∷ d ∷ e ∷ t) zero w x y z h = refl
four (a ∷ t) (suc b) w x y z h = ap (λ (l : List ℕ). a ∷ l) (four t b w x y z (omega arith))

-- four bytes from a place on, one by one
pub put_four : (t : List ℕ) (b w x y z : ℕ) → b + 4 ≤ length t → take b t ++ (w ∷ x ∷ y ∷ z ∷ drop 4 (drop b t)) ≡ set (set (set (set t b w) (b + 1) x) (b + 2) y) (b + 3) z
put_four t b w x y z h = let e : b + 1 ≡ suc b = omega arith in let f : b + 2 ≡ suc (suc b) = omega arith in let g : b + 3 ≡ suc (suc (suc b)) = omega arith in rw (e, f, g) (four t b w x y z h)

pub thirteen : (a b : ℕ) → a < 256 → (a + b * 256) % 8192 ≡ a + b % 32 * 256
thirteen a b h = omega arith
