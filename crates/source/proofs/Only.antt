-- No second answer meets the promise.
-- Assumes nothing.
use mathlib.Core.Path.{◌≡◌, refl}
use mathlib.Core.List.{List}
use Prim.Native.Nat.{ℕ}
use native.Mathlib.Omega.{arith}
use Rattle.std.specs.Prelude.{Result, Ok, Err}
use Rattle.meaning.specs.Declared.{Source}
use Rattle.language.specs.Texts.{good, refused, Reads}
use Rattle.language.proofs.Readings.{one-reads}
use Rattle.refusals.specs.declared.Refusal.{Refusal}
use Rattle.refusals.proofs.Only.{same_refusal}
use Rattle.source.specs.Says.{Says}

not_both : {A : Type 0} (s : List ℕ) (p : Source) (m q : ℕ) → Reads s (good p) → Reads s (refused m q) → A
not_both s p m q x y = let e = one-reads s x y in absurd (let z : ◌≡◌ {A = ℕ} 0 1 = cc e in omega arith)

one_refusal : (s : List ℕ) (r q : Refusal ℕ) → Says s (Err r) → Says s (Err q) → r ≡ q
one_refusal s r q x y = let e = one-reads s x y in same_refusal r q (cc e) (cc e)

pub check_only : (s : List ℕ) (a b : Result (Unit {0}) (Refusal ℕ)) → Says s a → Says s b → a ≡ b
check_only s (Ok u) (Ok v) x y = refl
check_only s (Ok u) (Err r) (p, x) y = not_both s p _ _ x y
check_only s (Err r) (Ok u) x (p, y) = not_both s p _ _ y x
check_only s (Err r) (Err q) x y = let e = one_refusal s r q x y in cc e
