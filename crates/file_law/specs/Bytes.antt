-- Numbers as bytes, and bytes put into a list.
-- Assumes nothing.
use Rattle.std.specs.Prelude.{ℕ, ◌+◌, ◌*◌, ◌/◌, ◌%◌, List, [], ◌∷◌, ◌++◌, length, get_or, take, drop}

-- F1: low byte first: two bytes
abbrev pub low2 : ℕ → List ℕ
low2 n = n % 256 ∷ n / 256 % 256 ∷ []

-- .. and four
abbrev pub low4 : ℕ → List ℕ
low4 n = n % 256 ∷ n / 256 % 256 ∷ n / 65536 % 256 ∷ n / 16777216 % 256 ∷ []

-- the number that two bytes make, read at `at` where b says each place's byte
unfoldable pub word2 : (ℕ → ℕ) → ℕ → ℕ
word2 b at = b at + 256 * b (at + 1)

-- .. and four
unfoldable pub word4 : (ℕ → ℕ) → ℕ → ℕ
word4 b at = b at + 256 * b (at + 1) + 65536 * b (at + 2) + 16777216 * b (at + 3)

-- each place's byte in a list, and 0 past its end
abbrev pub bytes_of : List ℕ → ℕ → ℕ
bytes_of l at = get_or l at 0

-- l with v in the place of what stands there from `at` on
unfoldable pub patch : List ℕ → ℕ → List ℕ → List ℕ
patch l at v = take at l ++ (v ++ drop (at + length v) l)
