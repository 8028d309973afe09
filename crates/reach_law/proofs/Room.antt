-- The room: a larger one changes nothing, and a room is refused exactly where the count is above it.
-- Assumes nothing.
use mathlib.Core.Path.{◌≡◌, subst}
use mathlib.Core.Logic.{◌↔◌, ◌⊎◌, inl, inr}
use mathlib.Core.Option.{Option, none, some}
use mathlib.Core.List.{List}
use Prim.Native.Nat.{ℕ, ◌<◌, ◌≤◌}
use lib.ListN.{length}
use native.Mathlib.Omega.{arith}
use Rattle.reach_law.specs.Machine.{Machine}
use Rattle.reach_law.specs.Count.{Counted, TooMany}
use Rattle.reach_law.specs.Numbering.{Numbering, Answers}
use Rattle.reach_law.specs.Search.{find}
use Rattle.reach_law.proofs.Unique.{one-count, numbering_counts, count-above, above-count, one_answer}
use Rattle.reach_law.proofs.Found.{find-answers}

module _ {S : Type 0} (dec : (a b : S) → Dec (a ≡ b)) (m : Machine S) where
  -- what is said for a room is what the search finds, and nothing else
  pub answered : (room : ℕ) (a : Option (List S)) → Answers m room a ↔ (find dec m room ≡ a)
  answered room a = (λ h. one_answer m room (find dec m room) a (find-answers dec m room) h, λ e. subst (Answers m room) e (find-answers dec m room))

  -- the search decides which of the two holds
  pub decided : (room : ℕ) → ((L : List S) × Numbering m L × (length L ≤ room)) ⊎ TooMany m room
  decided room = go (find dec m room) (find-answers dec m room)
    where
      go : (a : Option (List S)) → Answers m room a → ((L : List S) × Numbering m L × (length L ≤ room)) ⊎ TooMany m room
      go none t = inr t
      go (some L) (u, h) = inl (L, u, h)

  -- "reachable states above the room", exactly where the search finds no numbering
  pub refused : (room : ℕ) → TooMany m room ↔ (find dec m room ≡ none)
  refused room = answered room none

  -- .. that is, where the count is above the room
  pub refused-count : (room n : ℕ) → Counted m n → (find dec m room ≡ none) ↔ (room < n)
  refused-count room n c = (λ e. count-above ((refused room).1 e) c, λ h. (refused room).0 (above-count c h))

  -- a larger room changes nothing
  pub more_room : (room more : ℕ) (L : List S) → room ≤ more → find dec m room ≡ some L → find dec m more ≡ some L
  more_room room more L h e =
      let (u, k) = (answered room (some L)).1 e in
      (answered more (some L)).0 (u, omega arith)

  -- counted states have a numbering, as long as their count
  pub counted_numbering : {n : ℕ} → Counted m n → (L : List S) × Numbering m L × (length L ≡ n)
  counted_numbering {n} c = go (find dec m n) (find-answers dec m n)
    where
      go : (a : Option (List S)) → Answers m n a → (L : List S) × Numbering m L × (length L ≡ n)
      go none t = absurd (omega (arith, count-above t c))
      go (some L) (u, h) = (L, u, one-count (numbering_counts u) c)
