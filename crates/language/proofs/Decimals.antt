-- A number that is printed reads back as itself.
-- Assumes nothing.
use mathlib.Core.Bool.{Bool, true, false, cond}
use mathlib.Core.Path.{◌≡◌, refl, ◌∙◌}
use mathlib.Core.List.{List, [], ◌∷◌, ◌++◌}
use Prim.Native.Nat.{ℕ, zero, suc, ◌+◌, ◌-◌, ◌*◌, ◌/◌, ◌%◌, ◌^◌, ◌<◌}
use native.Mathlib.Omega.{arith}
use lib.Dec.{ltb}
use lib.Pow.{pow-add}
use Rattle.language.specs.Words.{value_from, value_of}
use Rattle.language.specs.Printed.{decimal_by, decimal}

-- one digit more
value-more : (v : ℕ) (w : List ℕ) (c : ℕ) → value_from v (w ++ (c ∷ [])) ≡ value_from v w * 10 + (c - 48)
unfolding value_from
value-more v [] c = refl
value-more v (d ∷ w) c = value-more (v * 10 + (d - 48)) w c

by_back : (f n : ℕ) → n < 10 ^ f → value_from 0 (decimal_by f n) ≡ n
unfolding value_from decimal_by
by_back zero n h = omega arith
by_back (suc f) n h = go (ltb n 10) refl (λ k. by_back f (n / 10) k)
  where
    go : (b : Bool) → ltb n 10 ≡ b → (n / 10 < 10 ^ f → value_from 0 (decimal_by f (n / 10)) ≡ n / 10)
        → value_from 0 (cond b ((48 + n) ∷ []) (decimal_by f (n / 10) ++ ((48 + n % 10) ∷ []))) ≡ n
    go true e on = omega arith
    go false e on =
        let k : n / 10 < 10 ^ f = omega (arith, pow-add 10 1 f) in
        value-more 0 (decimal_by f (n / 10)) (48 + n % 10) ∙ omega (arith, on k)

-- every number of a listing: places are at most 8,192, states below 256
pub printed-back : (n : ℕ) → n < 10 ^ 10 → value_of (decimal n) ≡ n
printed-back n h = by_back 10 n h
