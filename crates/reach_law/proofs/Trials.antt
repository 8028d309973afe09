-- Small machines, one table under one claim, each computed.
-- Assumes nothing.
use mathlib.Core.Path.{◌≡◌, refl}
use mathlib.Core.Option.{Option, none, some}
use mathlib.Core.List.{List, [], ◌∷◌, map}
use Prim.Native.Nat.{ℕ}
use native.Mathlib.Decide.{ℕ_discrete}
use lib.ListN.{get_or}
use Rattle.reach_law.specs.Machine.{Machine, shown}
use Rattle.reach_law.specs.Count.{Counted, TooMany}
use Rattle.reach_law.specs.Numbering.{Numbering}
use Rattle.reach_law.specs.Search.{number_of, next_number, meet, row, rows, find}
use Rattle.reach_law.proofs.Unique.{numbering_counts}
use Rattle.reach_law.proofs.Room.{answered, refused}

-- a machine by its next states: a list for each state, with one for each input
abbrev tabled : ℕ → ℕ → List (List ℕ) → Machine ℕ
tabled start inputs nexts = record { start = start; step = λ s x. get_or (get_or nexts s []) x s; inputs = inputs }

abbrev search : Machine ℕ → ℕ → Option (List ℕ)
search m room = find ℕ_discrete m room

abbrev next : Machine ℕ → List ℕ → ℕ → ℕ → ℕ
next m L i x = next_number ℕ_discrete m L i x

-- "`loop skip endloop`: 1 state"
abbrev still : Machine ℕ
still = tabled 0 1 ((0 ∷ []) ∷ [])

-- "`skip; skip`: 3 states"
abbrev chain : Machine ℕ
chain = tabled 0 1 ((1 ∷ []) ∷ (2 ∷ []) ∷ (2 ∷ []) ∷ [])

-- 3 leads to 1 and 4, 1 to 0 and back, 4 to 0 and 2: by depth 0 would come before 4, by falling inputs 4 before 1
abbrev five : Machine ℕ
five = tabled 3 2 ((0 ∷ 3 ∷ []) ∷ (0 ∷ 3 ∷ []) ∷ (2 ∷ 2 ∷ []) ∷ (1 ∷ 4 ∷ []) ∷ (0 ∷ 2 ∷ []) ∷ [])

-- 0 and 2 lead to one another alone; nothing leads to 1 or 3
abbrev parted : Machine ℕ
parted = tabled 2 2 ((2 ∷ 0 ∷ []) ∷ (3 ∷ 0 ∷ []) ∷ (2 ∷ 0 ∷ []) ∷ (1 ∷ 2 ∷ []) ∷ [])

pub record Trials : Type 0 where
  pub one : search still 1 ≡ some (0 ∷ [])
  pub not_even_one : search still 0 ≡ none
  -- "room 2 gives 11, room 3 a file"
  pub room-two : search chain 2 ≡ none
  pub room_three : search chain 3 ≡ some (0 ∷ 1 ∷ 2 ∷ [])
  pub room_most : search chain 256 ≡ some (0 ∷ 1 ∷ 2 ∷ [])
  pub refused-four : TooMany five 4
  pub numbered-five : Numbering five (3 ∷ 1 ∷ 4 ∷ 0 ∷ 2 ∷ [])
  pub counted-five : Counted five 5
  pub nexts-four : map (next five (3 ∷ 1 ∷ 4 ∷ 0 ∷ 2 ∷ []) 2) (0 ∷ 1 ∷ []) ≡ 3 ∷ 4 ∷ []
  pub unreached : Counted parted 2
  pub shows-five : shown five (λ s. s) 3 (1 ∷ 0 ∷ 1 ∷ 0 ∷ []) ≡ 3 ∷ 4 ∷ 0 ∷ 3 ∷ 1 ∷ []

pub trials : Trials
unfolding number_of next_number meet row rows find ℕ_discrete
trials =
    record {
      one = refl;
      not_even_one = refl;
      room-two = refl;
      room_three = refl;
      room_most = refl;
      refused-four = (refused ℕ_discrete five 4).1 refl;
      numbered-five = ((answered ℕ_discrete five 5 (some (3 ∷ 1 ∷ 4 ∷ 0 ∷ 2 ∷ []))).1 refl).0;
      counted-five = numbering_counts ((answered ℕ_discrete five 5 (some (3 ∷ 1 ∷ 4 ∷ 0 ∷ 2 ∷ []))).1 refl).0;
      nexts-four = refl;
      unreached = numbering_counts ((answered ℕ_discrete parted 9 (some (2 ∷ 0 ∷ []))).1 refl).0;
      shows-five = refl;
    }
