-- A row and its starts that pass one computed test at every entry are the table of spellings.
-- Assumes nothing.
use mathlib.Core.Bool.{Bool, true}
use mathlib.Core.Path.{◌≡◌, sym, ◌∙◌, ap}
use mathlib.Core.List.{List}
use Prim.Native.Nat.{ℕ, ◌+◌, ◌<◌}
use native.Mathlib.Nat.{zero-add}
use lib.ListN.{length, get_or}
use Rattle.file_law.specs.Answer.{every}
use Rattle.file_law.proofs.Every.{every_at}
use Rattle.language.specs.Words.{same}
use Rattle.spellings.specs.Spelled.{spelling_count, spelling}
use Rattle.spellings.specs.Part.{part}
use Rattle.spellings.specs.Search.{Table}
use Rattle.spellings.proofs.Same.{same_true}

-- one computed test gives what it says at each number
pub each : (p : ℕ → Bool) (n : ℕ) → every p n 0 ≡ true → (k : ℕ) → k < n → p k ≡ true
each p n e k h = ap p (sym (zero-add k)) ∙ every_at p n 0 e k h

module _ (row starts : List ℕ) where
  abbrev pub right : ℕ → Bool
  right k = same (part row (get_or starts k 0) (get_or starts (k + 1) 0)) (spelling k)

  pub tested : length starts ≡ spelling_count + 1 → every right spelling_count 0 ≡ true → Table row starts
  tested long all = record { long = long; rule = λ k h. same_true _ (spelling k) (each right spelling_count all k h) }
