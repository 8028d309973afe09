-- No second number satisfies the promise.
-- Assumes nothing.
use mathlib.Core.Path.{◌≡◌, sym, ap, ◌∙◌}
use mathlib.Core.List.{List}
use Prim.Native.Nat.{ℕ}
use Rattle.language.proofs.Readings.{one-reads}
use Rattle.clock_c.specs.Ran.{word_of, Ran}

pub ran_only : {text inputs : List ℕ} {r q : ℕ} → Ran text inputs r → Ran text inputs q → r ≡ q
ran_only {text} {inputs} a b = a.is ∙ ap (word_of inputs) (one-reads text a.reads b.reads) ∙ sym b.is
