-- Past the list of strengths there is none.
-- Assumes nothing.
use mathlib.Core.Path.{◌≡◌, refl}
use mathlib.Core.List.{List, [], ◌∷◌}
use mathlib.Core.Option.{none}
use Prim.Native.Nat.{ℕ, zero, suc, ◌≤◌}
use native.Mathlib.Omega.{arith}
use lib.ListN.{length, get_elem?}
use Rattle.language.specs.Grammar.{Strength, binding}

past-binding : (l : List Strength) (n : ℕ) → length l ≤ n → get_elem? l n ≡ none
past-binding [] n h = refl
past-binding (x ∷ l) zero h = absurd (omega arith)
past-binding (x ∷ l) (suc n) h = past-binding l n (omega arith)

pub no_strength : (n : ℕ) → 6 ≤ n → get_elem? binding n ≡ none
unfolding binding
no_strength n h = past-binding binding n h
