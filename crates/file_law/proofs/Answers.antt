-- The laws of an answer, and of a test that stands before it.
-- Assumes nothing.
use mathlib.Core.Path.{◌≡◌, refl, sym}
use Prim.Native.Nat.{ℕ}
use native.Mathlib.Omega.{arith}
use mathlib.Core.Bool.{Bool, true, false}
use Rattle.file_law.specs.Answer.{Answer, gives, refuses, unless}

module _ {A : Type 0} where
  pub never : {a : A} {number at : ℕ} → gives a ≡ refuses number at → ⊥
  never e = let z : ◌≡◌ {A = ℕ} 0 1 = cc in omega arith

  pub same : {a b : A} → gives a ≡ gives b → a ≡ b
  same e = cc

  -- where a value is given, the test before it has passed
  pub passed : (t : Bool) (number at : ℕ) (x : Answer A) {a : A} → unless t (refuses number at) x ≡ gives a → (t ≡ true) × (x ≡ gives a)
  passed true number at x e = (refl, e)
  passed false number at x e = absurd (never (sym e))
