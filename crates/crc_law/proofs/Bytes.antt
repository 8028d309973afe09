-- Parts of a list of bytes are lists of bytes; a list of n bytes is a number below 2 ^ (8 * n), and that number tells the list.
-- Assumes nothing.
use mathlib.Core.Path.{◌≡◌, refl, sym, ap, ap₂, ◌∙◌, subst}
use Prim.Native.Nat.{ℕ, zero, suc, ◌+◌, ◌*◌, ◌^◌, ◌<◌}
use native.Mathlib.Nat.{mul_comm}
use native.Mathlib.Omega.{arith}
use mathlib.Core.List.{List, [], ◌∷◌}
use lib.ListN.{length, take, drop}
use lib.Seq.{get_or-drop}
use lib.Pow.{pow-add}
use lib.Arith.{digits_lt}
use Rattle.crc_law.specs.Crc.{le_value, AllBytes}

pub bytes_take : (n : ℕ) (s : List ℕ) → AllBytes s → AllBytes (take n s)
bytes_take zero s h k = omega arith
bytes_take (suc n) [] h k = omega arith
bytes_take (suc n) (x ∷ s) h zero = h 0
bytes_take (suc n) (x ∷ s) h (suc k) = bytes_take n s (λ j. h (suc j)) k

pub bytes_drop : (n : ℕ) (s : List ℕ) → AllBytes s → AllBytes (drop n s)
bytes_drop n s h k = rw get_or-drop (h (n + k))

pub le_value-lt : (s : List ℕ) → AllBytes s → le_value s < 2 ^ (8 * length s)
unfolding le_value
le_value-lt [] h = omega arith
le_value-lt (b ∷ s) h =
    let e : 8 * length (b ∷ s) ≡ 8 + 8 * length s = omega arith in
    subst (λ (x : ℕ). le_value s * 2 ^ 8 + b < x) (sym (ap (λ (k : ℕ). 2 ^ k) e ∙ pow-add 2 8 (8 * length s) ∙ mul_comm (2 ^ 8) (2 ^ (8 * length s))))
    (digits_lt (le_value-lt s (λ k. h (suc k))) (h 0))

pub le_value_inj : (s t : List ℕ) → length s ≡ length t → AllBytes s → AllBytes t → le_value s ≡ le_value t → s ≡ t
unfolding le_value
le_value_inj [] [] l hs ht e = refl
le_value_inj [] (y ∷ t) l hs ht e = absurd (omega arith)
le_value_inj (x ∷ s) [] l hs ht e = absurd (omega arith)
le_value_inj (x ∷ s) (y ∷ t) l hs ht e =
    let hx : x < 256 = hs 0 in
    let hy : y < 256 = ht 0 in
    ap₂ (λ (a : ℕ) (r : List ℕ). a ∷ r) (omega arith) (le_value_inj s t (omega arith) (λ k. hs (suc k)) (λ k. ht (suc k)) (omega arith))
