-- What is written behind the tree: the frame of a call, and nothing where it was.
-- Assumes nothing.
use Rattle.std.specs.Prelude.{Bool, true, false, cond, ◌≡◌, List, ℕ, zero, suc, ◌+◌, ◌*◌, ◌/◌, ◌%◌, ◌≤◌, ◌<◌, eqb, length, get_or, set, take}
use Rattle.parts.specs.Beside.{tree_bytes, beside}

-- the tree stays, and behind it lie these bytes
pub record Puts (t u z : List ℕ) : Type 0 where
  pub tree : take tree_bytes u ≡ take tree_bytes t
  pub behind : beside u ≡ record { size = length t; names = z }

-- two bytes, the low one first
unfoldable pub half_in : List ℕ → ℕ → ℕ → List ℕ
half_in z o x = set (set z o (x % 256)) (o + 1) (x / 256)

-- the caller's frame, and the place of the procedure's name
unfoldable pub frame_in : List ℕ → ℕ → ℕ → ℕ → List ℕ
frame_in z top caller p = half_in (half_in z top caller) (top + 2) p

-- an actual: its place in 13 bits, its parts in 11, its levels in a byte
unfoldable pub actual_in : List ℕ → ℕ → ℕ → ℕ → ℕ → List ℕ
actual_in z o place parts levels = set (set (set (set z o (place % 256)) (o + 1) (place / 256 % 32 + parts % 8 * 32)) (o + 2) (parts / 8 % 256)) (o + 3) levels

-- so many bytes are made zero, from a place on
unfoldable pub wiped : List ℕ → ℕ → ℕ → List ℕ
wiped z from zero = z
wiped z from (suc n) = wiped (set z from 0) (from + 1) n

-- .. are zero
unfoldable pub zero_from : List ℕ → ℕ → ℕ → Bool
zero_from z from zero = true
zero_from z from (suc n) = cond (eqb (get_or z from 0) 0) (zero_from z (from + 1) n) false

-- bytes are written between two places, where all were zero
pub record Over (z y : List ℕ) (from to : ℕ) : Type 0 where
  pub size : length y ≡ length z
  pub low : (i : ℕ) → i < from → get_or y i 0 ≡ get_or z i 0
  pub high : (i : ℕ) → to ≤ i → get_or y i 0 ≡ get_or z i 0
  pub zeros : (i : ℕ) → from ≤ i → i < to → get_or z i 0 ≡ 0
