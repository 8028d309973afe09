-- "the low bits of the two's complement form", for any width: the one number below 2 ^ w that differs from the value by a multiple of 2 ^ w.
-- Assumes nothing.
use mathlib.Core.Path.{◌≡◌, refl, sym, ap, ◌∙◌}
use mathlib.Core.Bool.{Bool, true, false, cond}
use Prim.Native.Nat.{ℕ, zero, suc, ◌+◌, ◌-◌, ◌*◌, ◌/◌, ◌%◌, ◌^◌, ◌≤◌, ◌<◌}
use native.Mathlib.Nat.{mod-lt, mod-eq_of_lt, mod_self, zero-mod, suc-mod, mod-eq-sub-mod, add-mod_right, add-mod-mod, mod-add-div', suc-mul, sub-zero}
use native.Mathlib.Omega.{arith}
use borrow.Author.Tests.{ltb-true, ltb-false, lt-ltb}
use lib.Dec.{ltb}
use lib.IntN.{ℤ, pos, negsuc, neg_ℤ, ◌+ℤ◌, ◌-ℤ◌, ◌*ℤ◌, zero-*ℤ, suc_ℤ-*ℤ, pred_ℤ-*ℤ, +ℤ_idr, +ℤ_assoc, +ℤ_comm, -ℤ-+ℤ_cancel}
use lib.Pow.{pow_pos, split, low, ones_sub-lt, mod-mod-pow}
use Rattle.meaning.specs.Numbers.{low_bits}
use Rattle.meaning.proofs.Bits.{turned}

pub low-lt : (w : ℕ) (z : ℤ) → low_bits w z < 2 ^ w
low-lt w (pos n) = mod-lt n (pow_pos w)
low-lt w (negsuc n) = ones_sub-lt w (n % 2 ^ w)

-- ---- a multiple of 2 ^ w changes nothing

low_up : (w : ℕ) (z : ℤ) → low_bits w (z +ℤ pos (2 ^ w)) ≡ low_bits w z
low_up w (pos n) = add-mod_right n (2 ^ w)
low_up w (negsuc n) = by (ltb (2 ^ w) (suc n)) refl
  where
    by : (t : Bool) → ltb (2 ^ w) (suc n) ≡ t
        → low_bits w (cond t (negsuc (suc n - suc (2 ^ w))) (pos (2 ^ w - suc n))) ≡ 2 ^ w - 1 - n % 2 ^ w
    by true e =
        ap (λ (x : ℕ). 2 ^ w - 1 - x)
        (ap (λ (x : ℕ). x % 2 ^ w) (omega arith) ∙ sym (mod-eq-sub-mod {n = n} {m = 2 ^ w} (omega (arith, ltb-true (2 ^ w) (suc n) e))))
    by false e =
        let h : suc n ≤ 2 ^ w = ltb-false (2 ^ w) (suc n) e in
        mod-eq_of_lt {n = 2 ^ w - suc n} {m = 2 ^ w} (omega arith) ∙ omega (arith, mod-eq_of_lt {n = n} {m = 2 ^ w} h)

low_down : (w : ℕ) (z a : ℤ) → low_bits w (z +ℤ (a -ℤ pos (2 ^ w))) ≡ low_bits w (z +ℤ a)
low_down w z a =
    sym (low_up w (z +ℤ (a -ℤ pos (2 ^ w))))
    ∙ ap (low_bits w) (+ℤ_assoc z (a -ℤ pos (2 ^ w)) (pos (2 ^ w)) ∙ ap (λ (x : ℤ). z +ℤ x) (-ℤ-+ℤ_cancel a (pos (2 ^ w))))

low_no_times : (w : ℕ) (z : ℤ) → low_bits w (z +ℤ pos zero *ℤ pos (2 ^ w)) ≡ low_bits w z
low_no_times w z = ap (low_bits w) (ap (λ (x : ℤ). z +ℤ x) (zero-*ℤ (pos (2 ^ w))) ∙ +ℤ_idr z)

pub low_times : (w : ℕ) (z k : ℤ) → low_bits w (z +ℤ k *ℤ pos (2 ^ w)) ≡ low_bits w z
low_times w z (pos zero) = low_no_times w z
low_times w z (pos (suc n)) =
    ap (low_bits w)
    (ap (λ (x : ℤ). z +ℤ x) (suc_ℤ-*ℤ (pos n) (pos (2 ^ w))) ∙ sym (+ℤ_assoc z (pos n *ℤ pos (2 ^ w)) (pos (2 ^ w))))
    ∙ low_up w (z +ℤ pos n *ℤ pos (2 ^ w))
    ∙ low_times w z (pos n)
low_times w z (negsuc zero) =
    ap (λ (x : ℤ). low_bits w (z +ℤ x)) (pred_ℤ-*ℤ (pos zero) (pos (2 ^ w)))
    ∙ low_down w z (pos zero *ℤ pos (2 ^ w))
    ∙ low_no_times w z
low_times w z (negsuc (suc n)) =
    ap (λ (x : ℤ). low_bits w (z +ℤ x)) (pred_ℤ-*ℤ (negsuc n) (pos (2 ^ w)))
    ∙ low_down w z (negsuc n *ℤ pos (2 ^ w))
    ∙ low_times w z (negsuc n)

-- ---- the value is its low bits and a multiple of 2 ^ w, and no other number below 2 ^ w is

below-zero : (a n x : ℕ) → a + suc n ≡ x → negsuc n ≡ pos a +ℤ neg_ℤ (pos x)
below-zero a n zero e = absurd (omega arith)
below-zero a n (suc y) e = rw (lt-ltb a (suc y) (omega arith)) (ap negsuc (omega arith))

pub low_and_times : (w : ℕ) (z : ℤ) → (k : ℤ) × (z ≡ pos (low_bits w z) +ℤ k *ℤ pos (2 ^ w))
low_and_times w (pos n) = (pos (n / 2 ^ w), ap pos (sym (mod-add-div' n (2 ^ w))))
low_and_times w (negsuc n) = (
  negsuc (n / 2 ^ w),
  below-zero (2 ^ w - 1 - n % 2 ^ w) n (suc (n / 2 ^ w) * 2 ^ w)
      (omega (arith, split n w, mod-lt n (pow_pos w), suc-mul (n / 2 ^ w) (2 ^ w))),
)

pub low_only : (w x : ℕ) (k z : ℤ) → x < 2 ^ w → z ≡ pos x +ℤ k *ℤ pos (2 ^ w) → low_bits w z ≡ x
low_only w x k z h e = ap (low_bits w) e ∙ low_times w (pos x) k ∙ mod-eq_of_lt h

-- ---- sums and differences

low-left : (w : ℕ) (a b : ℤ) → low_bits w (a +ℤ b) ≡ low_bits w (pos (low_bits w a) +ℤ b)
low-left w a b =
    let (k, e) = low_and_times w a in
    let m : ℤ = k *ℤ pos (2 ^ w) in
    let x : ℤ = pos (low_bits w a) in
    ap (low_bits w) (ap (λ (y : ℤ). y +ℤ b) e ∙ +ℤ_assoc x m b ∙ ap (λ (y : ℤ). x +ℤ y) (+ℤ_comm m b) ∙ sym (+ℤ_assoc x b m))
    ∙ low_times w (x +ℤ b) k

pub low_sum : (w : ℕ) (a b : ℤ) → low_bits w (a +ℤ b) ≡ (low_bits w a + low_bits w b) % 2 ^ w
low_sum w a b =
    low-left w a b
    ∙ ap (low_bits w) (+ℤ_comm (pos (low_bits w a)) b)
    ∙ low-left w b (pos (low_bits w a))
    ∙ ap (low_bits w) (+ℤ_comm (pos (low_bits w b)) (pos (low_bits w a)))

-- s and s + 1, turned round 2 ^ w
wraps : (m s : ℕ) → s < m → m - 1 - s ≡ (m - suc s % m) % m
wraps m s h = by (ltb (suc s) m) refl
  where
    by : (t : Bool) → ltb (suc s) m ≡ t → m - 1 - s ≡ (m - suc s % m) % m
    by true e =
        let k : suc s < m = ltb-true (suc s) m e in
        rw (mod-eq_of_lt k) (omega arith ∙ sym (mod-eq_of_lt {n = m - suc s} {m = m} (omega arith)))
    by false e =
        let k : suc s ≡ m = omega (arith, ltb-false (suc s) m e) in
        rw (k, mod_self m, sub-zero m) (omega arith ∙ sym (mod_self m))

pub low_negative : (w : ℕ) (z : ℤ) → low_bits w (neg_ℤ z) ≡ (2 ^ w - low_bits w z) % 2 ^ w
low_negative w (pos zero) = rw (zero-mod (2 ^ w), sub-zero (2 ^ w)) (sym (mod_self (2 ^ w)))
low_negative w (pos (suc n)) =
    wraps (2 ^ w) (n % 2 ^ w) (mod-lt n (pow_pos w)) ∙ ap (λ (x : ℕ). (2 ^ w - x) % 2 ^ w) (sym (suc-mod n (2 ^ w)))
low_negative w (negsuc n) = suc-mod n (2 ^ w) ∙ ap (λ (x : ℕ). x % 2 ^ w) (omega (arith, mod-lt n (pow_pos w)))

pub low_difference : (w : ℕ) (a b : ℤ) → low_bits w (a -ℤ b) ≡ (low_bits w a + (2 ^ w - low_bits w b)) % 2 ^ w
low_difference w a b =
    low_sum w a (neg_ℤ b)
    ∙ ap (λ (x : ℕ). (low_bits w a + x) % 2 ^ w) (low_negative w b)
    ∙ add-mod-mod (low_bits w a) (2 ^ w - low_bits w b) (2 ^ w)

-- ---- fewer low bits of more

low_of_more : (j w : ℕ) (z : ℤ) → low_bits w z ≡ low_bits (j + w) z % 2 ^ w
low_of_more j w (pos n) = sym (mod-mod-pow n j w)
low_of_more j w (negsuc n) =
    let s : ℕ = n % 2 ^ (j + w) in
    ap (λ (x : ℕ). 2 ^ w - 1 - x) (sym (mod-mod-pow n j w))
    ∙ sym (low (2 ^ j - 1 - s / 2 ^ w) w (ones_sub-lt w (s % 2 ^ w)))
    ∙ ap (λ (x : ℕ). x % 2 ^ w) (sym (turned s j w (mod-lt n (pow_pos (j + w)))))

-- 32-bit results serve every width up to 32
pub low_of_low : (w v : ℕ) (z : ℤ) → w ≤ v → low_bits w z ≡ low_bits v z % 2 ^ w
low_of_low w v z h = low_of_more (v - w) w z ∙ ap (λ (x : ℕ). low_bits x z % 2 ^ w) (omega arith)
