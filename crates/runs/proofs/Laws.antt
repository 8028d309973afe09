-- The least number where an activity stands, and the clocks left of a delay.
use Rattle.std.proofs.Common.{◌≡◌, refl, ap, ◌∙◌, List, [], ◌∷◌, map, ℕ}
use Rattle.std.specs.Prelude.{reverse}
use Rattle.std.specs.List.{fold}
use Rattle.std.proofs.lemmas.List.{reverse-append}
use Rattle.std.proofs.lemmas.List.Sums.{fold-append}
use Rattle.runs.specs.declared.Entry.{Entry}
use Rattle.runs.specs.Run.{entry_from, least_from, least_of}

-- the last of the activities first
pub least_fold : (xs : List Entry) (i m : ℕ) → fold (λ a x. least_of (entry_from x) i a) m (reverse xs) ≡ least_from (map entry_from xs) i m
unfolding least_from
least_fold [] i m = refl
least_fold (x ∷ xs) i m = ap (fold (λ a y. least_of (entry_from y) i a) m) (reverse-append (x ∷ []) xs) ∙ fold-append (λ a y. least_of (entry_from y) i a) m (reverse xs) (x ∷ []) ∙ ap (least_of (entry_from x) i) (least_fold xs i m)
