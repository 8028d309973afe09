-- What is told of the actuals of a call, and what of them is written.
-- Assumes nothing.
use Rattle.std.specs.Prelude.{cond, ◌≡◌, List, ◌∷◌, map, ℕ, ◌+◌, ◌*◌, ◌≤◌, ◌<◌, ltb, length, get_or, take}
use Rattle.meaning.specs.Unexpanded.{Term}
use Rattle.meaning.specs.Expansion.{Bound, replaced}
use Rattle.language.specs.Words.{Word}
use Rattle.language.specs.Grammar.{Actuals, most_levels}
use Rattle.descent_law.specs.Told.{Told}
use Rattle.hand.specs.Along.{Along, Stands, Near}
use Rattle.parts.specs.Beside.{tree_bytes, beside}
use Rattle.frames_law.specs.Frames.{told_at}
use Rattle.frames.specs.declared.Under.{Under}
use Rattle.frames.specs.Open.{Sized, Nested, BindsUnder, Handed}
use Rattle.frames.specs.Put.{actual_in, Over}
use Rattle.calls.specs.declared.actuals.Handing.{Handing}

-- an actual is written where the frame has room for so many
unfoldable pub hand_in : List ℕ → ℕ → ℕ → ℕ → ℕ → ℕ → ℕ → List ℕ
hand_in z room top i place parts levels = cond (ltb i room) (actual_in z (top + 4 + i * 4) place parts levels) z

-- what is known of the formals under u
pub record Known (s z : List ℕ) (u : Under) (bound : List (Bound Term)) : Type 0 where
  pub framed : BindsUnder s z u bound
  pub sized : Sized s z u.depth u.frame bound
  pub nested : Nested s z u.depth u.frame u.top

-- what the actuals stand for
abbrev pub stand_for : Under → List (Bound Term) → List Term → List Term
stand_for u bound ts = map (replaced (told_at u.at) bound) ts

-- the tree stays, and so does all that lies outside of the frame
pub record Beyond (t v : List ℕ) (top room : ℕ) : Type 0 where
  pub tree : take tree_bytes v ≡ take tree_bytes t
  pub size : length v ≡ length t
  pub kept : room ≡ 0 → beside v ≡ beside t
  pub low : (i : ℕ) → i < top → get_or (beside v).names i 0 ≡ get_or (beside t).names i 0
  pub over : (z : List ℕ) (to : ℕ) → top + 4 + room * 4 ≤ to → Over z (beside t).names top to → Over z (beside v).names top to

-- the actuals of a call from a place on: the word behind them, their count, and if as many as there is room for, the frame's part
pub record Hands (s t v : List ℕ) (u : Under) (from room : ℕ) (r : Handing) : Type 0 where
  pub near : Near s r.word
  pub later : from ≤ r.word.place
  pub beyond : Beyond t v u.top room
  pub told : (ws : List Word) → Along s from ws → (f m : ℕ) (ts : List Term) (c : Word) (rest : List Word) → m ≤ most_levels → Told f Actuals m ws ts (c ∷ rest)
      → Stands s r.word (c ∷ rest) × (r.count ≡ length ts)
      × ((bound : List (Bound Term)) → Known s (beside t).names u bound → r.count ≡ room → u.top + 4 + room * 4 ≤ length (beside t).names → Handed s (beside v).names (u.top + 4) room ts (stand_for u bound ts))
