-- `kiss_fields::more_digits` meets its contract. The loop's invariant: the digits of a number below n stand up to `end`, and behind a 0 none more.
-- Assumes nothing.
use Rattle.kiss_fields.specs.Took.{ReadSo, Left}
use Rattle.kiss_law.specs.Text.{decimal}
use mathlib.Core.Path.{◌≡◌}
use mathlib.Core.List.{[], ◌∷◌, ◌++◌}
use Prim.Native.Nat.{ℕ, ◌<◌}
use lib.ListN.{get_or}
use Rattle.kiss_fields.proofs.more_digits.Given as goal

abbrev pub invariant-loop-end : goal.invariant-loop-end
invariant-loop-end l =
    (l.value < l.n) × ReadSo l.text l.at l.value l.end × (¬ (get_or l.text l.end 0 ≡ 32) → l.value ≡ 0 → Left l.n (λ (v : ℕ). decimal v ++ (32 ∷ [])) l.text l.at l.end)
