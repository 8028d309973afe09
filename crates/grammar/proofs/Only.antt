-- No second answer meets the promise.
-- Assumes nothing.
use mathlib.Core.Path.{◌≡◌, refl}
use mathlib.Core.Logic.{inl, inr}
use mathlib.Core.List.{List}
use Prim.Native.Nat.{ℕ}
use native.Mathlib.Omega.{arith}
use Rattle.std.specs.Prelude.{Result, Ok, Err}
use Rattle.language.specs.Words.{Word}
use Rattle.language.specs.Grammar.{program, refuses, Checks}
use Rattle.language.proofs.Checking.{one-outcome}
use Rattle.refusals.specs.declared.Refusal.{Refusal}
use Rattle.refusals.specs.Number.{number_of}
use Rattle.refusals.proofs.Only.{same_refusal}
use Rattle.grammar.specs.Meaning.{Says}

not_both : {A : Type 0} (s : List ℕ) (ws : List Word) (n p : ℕ) → Checks s (program ws) → Checks s (refuses n p) → A
not_both s ws n p x y = let e = one-outcome s x y in absurd (let z : ◌≡◌ {A = ℕ} 0 1 = cc e in omega arith)

numbers : (s : List ℕ) (r q : Refusal ℕ) → Says s (Err r) → Says s (Err q) → (number_of r.cause ≡ number_of q.cause) × (r.place ≡ q.place)
numbers s r q (inl (k, e, f)) (inl (l, g, i)) = (omega arith, omega arith)
numbers s r q (inl (k, e, f)) (inr (l, y)) = absurd (omega arith)
numbers s r q (inr (k, x)) (inl (l, g, i)) = absurd (omega arith)
numbers s r q (inr (k, x)) (inr (l, y)) = let e = one-outcome s x y in (cc e, cc e)

pub check_only : (s : List ℕ) (a b : Result (Unit {0}) (Refusal ℕ)) → Says s a → Says s b → a ≡ b
check_only s (Ok x) (Ok y) p q = refl
check_only s (Ok v) (Err r) (h, (ws, x)) (inl (k, e, f)) = absurd (omega arith)
check_only s (Ok v) (Err r) (h, (ws, x)) (inr (k, y)) = not_both s ws _ _ x y
check_only s (Err r) (Ok v) (inl (k, e, f)) (h, (ws, x)) = absurd (omega arith)
check_only s (Err r) (Ok v) (inr (k, y)) (h, (ws, x)) = not_both s ws _ _ x y
check_only s (Err r) (Err q) x y = let (n, p) = numbers s r q x y in let e = same_refusal r q n p in cc e
