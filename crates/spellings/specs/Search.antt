-- The table of spellings and the search in it.
-- Assumes nothing.
use Rattle.std.specs.Prelude.{◌≡◌, Bool, not, cond, Option, Some, None, List, ℕ, ◌+◌, ◌-◌, ◌<◌, length, get_or, drop, eqb, ltb}
use Rattle.file_law.specs.Answer.{first_not}
use Rattle.language.specs.Words.{same}
use Rattle.language.specs.Scan.{begins}
use Rattle.spellings.specs.Spelled.{sign_count, spelling_count, spelling}
use Rattle.spellings.specs.Part.{part}

-- the spellings stand one after the other in a row; number k from start k to start k + 1
pub record Table (row starts : List ℕ) : Type 0 where
  pub long : length starts ≡ spelling_count + 1
  pub rule : (k : ℕ) → k < spelling_count → part row (get_or starts k 0) (get_or starts (k + 1) 0) ≡ spelling k

-- the first byte of spelling k
unfoldable pub opening : ℕ → ℕ
opening k = get_or (spelling k) 0 0

-- the first spelling from k on and before `last` that begins with byte c; `last` where none does
unfoldable pub like_from : ℕ → ℕ → ℕ → ℕ
like_from c last k = first_not (λ j. not (eqb (opening j) c)) (last - k) k

-- a small table has n entries, and entry i is f i
pub record Lists (f : ℕ → ℕ) (n : ℕ) (t : List ℕ) : Type 0 where
  pub long : length t ≡ n
  pub told : (i : ℕ) → i < n → get_or t i 0 ≡ f i

-- a table of signs by their first byte, from `low` on
pub record FirstSigns (low : ℕ) (t : List ℕ) : Type 0 where
  pub told : (i : ℕ) → i < length t → get_or t i 0 ≡ like_from (low + i) sign_count 0

-- the signs from this one on have one byte
abbrev pub long_signs : ℕ
long_signs = 10

-- the small tables: the next sign alike; a sign's second byte
unfoldable pub sign_next : ℕ → ℕ
sign_next k = like_from (opening k) sign_count (k + 1)

unfoldable pub second : ℕ → ℕ
second k = get_or (spelling k) 1 0

-- .. reserved words by their letter, from `a` on; the next one alike; how many bytes one has
unfoldable pub reserved_by : ℕ → ℕ
reserved_by i = like_from (97 + i) spelling_count sign_count

unfoldable pub reserved_next : ℕ → ℕ
reserved_next j = like_from (opening (sign_count + j)) spelling_count (sign_count + j + 1)

unfoldable pub size : ℕ → ℕ
size j = length (spelling (sign_count + j))

-- spelling k stands at a place: a sign if the text goes on with it, a reserved word if it is the whole word, which ends at e
unfoldable pub fits_at : List ℕ → ℕ → ℕ → ℕ → Bool
fits_at s at e k = cond (ltb k sign_count) (begins (drop at s) (spelling k)) (same (part s at e) (spelling k))

-- .. does not
abbrev pub misses_at : List ℕ → ℕ → ℕ → ℕ → Bool
misses_at s at e k = not (fits_at s at e k)

-- the number that a search came to, if it is below its end
abbrev pub found : ℕ → ℕ → Option ℕ
found end k = cond (ltb k end) (Some k) None
