-- How procedures and the frames of open calls lie in the bytes behind the tree: the declared names first, the frames behind them, the procedures from the end of 16,384 bytes downwards.
-- Assumes nothing.
use Rattle.std.specs.Prelude.{Bool, true, false, cond, List, [], ◌∷◌, ℕ, zero, suc, ◌+◌, ◌-◌, ◌*◌, ◌/◌, ◌%◌, length, get_or}
use Rattle.language.specs.Words.{Kind, name, number, the, bytes, same}
use Rattle.language.specs.Scan.{Next, found, stops, over, next_word, behind}
use Rattle.frames_law.specs.Frames.{Frames}

-- two bytes, the low one first
unfoldable pub half_at : List ℕ → ℕ → ℕ
half_at z o = get_or z o 0 + get_or z (o + 1) 0 * 256

-- ---- procedures: four bytes each, by their order in the text

abbrev pub row_at : ℕ → ℕ
row_at i = 16380 - i * 4

-- the place of its name
unfoldable pub procedure_at : List ℕ → ℕ → ℕ
procedure_at z i = half_at z (row_at i)

-- P14: the activities that it can have
unfoldable pub wide_at : List ℕ → ℕ → ℕ
wide_at z i = get_or z (row_at i + 2) 0

-- ---- formals: read again from the text

abbrev pub is_name : Kind → Bool
is_name name = true
is_name number = false
is_name (the x) = false

abbrev pub is_comma : Kind → Bool
is_comma name = false
is_comma number = false
is_comma (the x) = same (bytes x) (44 ∷ [])

-- of the next word: is it a name, is it a comma, and the place behind it
unfoldable pub name_next : Next → Bool
name_next (found w) = is_name w.kind
name_next (stops e) = false
name_next over = false

unfoldable pub comma_next : Next → Bool
comma_next (found w) = is_comma w.kind
comma_next (stops e) = false
comma_next over = false

unfoldable pub past_next : Next → ℕ
past_next (found w) = behind w
past_next (stops e) = e
past_next over = 0

abbrev pub past_word : List ℕ → ℕ → ℕ
past_word s from = past_next (next_word s from)

-- so many names at most, each but the last with a comma behind it: the places from which on each is the next word
unfoldable pub formals_from : ℕ → List ℕ → ℕ → List ℕ
formals_from zero s from = []
formals_from (suc k) s from =
    cond (name_next (next_word s from))
    (from ∷ cond (comma_next (next_word s (past_word s from))) (formals_from k s (past_word s (past_word s from))) [])
    []

-- more than a text of 8,192 bytes can have
abbrev pub most_formals : ℕ
most_formals = 8192

-- P1: the formals of the procedure whose name stands at p, behind its `(`
unfoldable pub formals_at : List ℕ → ℕ → List ℕ
formals_at s p = formals_from most_formals s (past_word s (past_word s p))

-- the place from which on the word behind them is the next
unfoldable pub close_from : ℕ → List ℕ → ℕ → ℕ
close_from zero s from = from
close_from (suc k) s from =
    cond (name_next (next_word s from))
    (cond (comma_next (next_word s (past_word s from))) (close_from k s (past_word s (past_word s from))) (past_word s from))
    from

-- P1: where its body begins, behind the `)`
unfoldable pub body_from : List ℕ → ℕ → ℕ
body_from s p = past_word s (close_from most_formals s (past_word s (past_word s p)))

-- ---- frames: the caller's frame, the place of the procedure's name, and four bytes for each actual

-- an actual: the place of its first word in 13 bits, its parts in 11, its levels in a byte
unfoldable pub place_at : List ℕ → ℕ → ℕ
place_at z o = get_or z o 0 + get_or z (o + 1) 0 % 32 * 256

unfoldable pub parts_at : List ℕ → ℕ → ℕ
parts_at z o = get_or z (o + 1) 0 / 32 + get_or z (o + 2) 0 * 8

unfoldable pub levels_at : List ℕ → ℕ → ℕ
levels_at z o = get_or z (o + 3) 0

-- so many of these, from a place of the area on
unfoldable pub each_from : (List ℕ → ℕ → ℕ) → List ℕ → ℕ → ℕ → List ℕ
each_from read z o zero = []
each_from read z o (suc n) = read z o ∷ each_from read z (o + 4) n

-- how many formals the procedure of a frame has
abbrev pub formal_count : List ℕ → List ℕ → ℕ → ℕ
formal_count s z f = length (formals_at s (half_at z (f + 2)))

unfoldable pub frames_of : List ℕ → List ℕ → Frames
frames_of s z =
    record {
      caller = λ f. half_at z f;
      formals = λ f. formals_at s (half_at z (f + 2));
      actuals = λ f. each_from place_at z (f + 4) (formal_count s z f);
    }

-- how many bytes the frame of a call takes of the procedure whose name stands at p
abbrev pub frame_bytes : List ℕ → ℕ → ℕ
frame_bytes s p = 4 + length (formals_at s p) * 4

-- what the frames of calls one in the other can take at most, each of an earlier procedure
unfoldable pub chain_bytes : List ℕ → List ℕ → ℕ → ℕ
chain_bytes s z zero = 0
chain_bytes s z (suc n) = frame_bytes s (procedure_at z n) + chain_bytes s z n
