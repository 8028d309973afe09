-- How two lists of bytes differ: the words in which the laws of the check are said.
-- Assumes nothing.
use Rattle.std.specs.Prelude.{◌≡◌, ℕ, ◌+◌, ◌≤◌, ◌<◌, length, get_or, List, [], ◌∷◌}
use Rattle.std.specs.Int.Bits.{bit_xor}

-- the exclusive or of two lists, place by place, as far as the shorter goes
unfoldable pub xor_lists : List ℕ → List ℕ → List ℕ
xor_lists [] t = []
xor_lists (x ∷ s) [] = []
xor_lists (x ∷ s) (y ∷ t) = bit_xor x y ∷ xor_lists s t

-- s and t have one length and differ, if at all, inside the four neighbouring places from i on
pub record SameOutside (i : ℕ) (s t : List ℕ) : Type 0 where
  pub size : length s ≡ length t
  pub before : (k : ℕ) → k < i → get_or s k 0 ≡ get_or t k 0
  pub behind : (k : ℕ) → i + 4 ≤ k → get_or s k 0 ≡ get_or t k 0
