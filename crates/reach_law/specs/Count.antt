-- How many states a machine reaches. No search is in these definitions.
-- Assumes nothing.
use Rattle.std.specs.Prelude.{◌≡◌, ℕ, ◌<◌, length}
use mathlib.Core.List.{List, [], ◌∷◌, Memᴰ}
use Rattle.reach_law.specs.Machine.{Machine, Reach}

module _ {S : Type 0} where
  -- no element stands twice in the list
  abbrev pub Apart : List S → Type 0
  Apart [] = Unit
  Apart (a ∷ l) = (¬ Memᴰ a l) × Apart l

  -- the list has every reachable state once, and no other
  pub record Lists (m : Machine S) (L : List S) : Type 0 where
    pub apart : Apart L
    pub sound : (s : S) → Memᴰ s L → Reach m s
    pub whole : (s : S) → Reach m s → Memᴰ s L

  -- "state count": n states are reachable
  pub record Counted (m : Machine S) (n : ℕ) : Type 0 where
    pub states : List S
    pub lists : Lists m states
    pub size : length states ≡ n

  -- "reachable states above the room": more than `room` of them, none twice
  pub record TooMany (m : Machine S) (room : ℕ) : Type 0 where
    pub states : List S
    pub apart : Apart states
    pub sound : (s : S) → Memᴰ s states → Reach m s
    pub above : room < length states
