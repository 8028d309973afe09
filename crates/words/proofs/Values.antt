-- The value of digits, one after the other.
-- Assumes nothing.
use mathlib.Core.Path.{◌≡◌, refl}
use mathlib.Core.List.{List, [], ◌∷◌}
use Prim.Native.Nat.{ℕ, zero, suc, ◌+◌, ◌-◌, ◌*◌, ◌<◌}
use native.Mathlib.Numerals.{add-one}
use native.Mathlib.Omega.{arith}
use lib.ListN.{length, get_or, take}
use Rattle.language.specs.Words.{value_from, value_of}
use Rattle.words.specs.Runs.{cap}

value_push : (l : List ℕ) (i v : ℕ) → i < length l → value_from v (take (suc i) l) ≡ value_from v (take i l) * 10 + (get_or l i 0 - 48)
unfolding value_from
value_push [] i v h = absurd (omega arith)
value_push (c ∷ l) zero v h = refl
value_push (c ∷ l) (suc i) v h = value_push l i (v * 10 + (c - 48)) (omega arith)

-- one more digit
pub value_more : (l : List ℕ) (i v w : ℕ) → i < length l → v ≡ cap (value_of (take i l)) → w ≡ cap (v * 10 + (get_or l i 0 - 48)) → w ≡ cap (value_of (take (i + 1) l))
value_more l i v w h p q = rw (add-one i, value_push l i 0 h) (omega arith)
