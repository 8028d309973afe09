-- No second number satisfies the promise.
-- Assumes nothing.
use mathlib.Core.Path.{◌≡◌, sym, ap, ◌∙◌}
use mathlib.Core.List.{List}
use Prim.Native.Nat.{ℕ}
use Rattle.source.proofs.Only.{check_only}
use Rattle.grammar.proofs.Only as grammar
use Rattle.front_c.specs.Code.{code_of, Coded, Read}

pub code_only : {s : List ℕ} {r q : ℕ} → Coded s r → Coded s q → r ≡ q
code_only {s} a b = a.is ∙ ap code_of (check_only s a.answer b.answer a.says b.says) ∙ sym b.is

pub read_only : {s : List ℕ} {r q : ℕ} → Read s r → Read s q → r ≡ q
read_only {s} a b = a.is ∙ ap code_of (grammar.check_only s a.answer b.answer a.says b.says) ∙ sym b.is
