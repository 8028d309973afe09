-- The words of a text, computed: what the code is held to. proofs/Cutting says that it is the cut of Words.
-- Assumes nothing.
use Rattle.std.specs.Prelude.{Bool, true, false, ◌&&◌, cond, List, [], ◌∷◌, ℕ, zero, suc, ◌+◌, eqb, length, get_or, take, drop}
use Rattle.std.proofs.Math.Option.{Option, none, some}
use Prim.Native.String.{String}
use Rattle.language.specs.Words.{bytes, letter, digit, in_name, in_number, in_blanks, signs, first_of, kind_of, too_large, Word, word_at, Words, words, refused, before}

-- how many bytes from the front on go on
unfoldable pub span : (ℕ → ℕ → Bool) → List ℕ → ℕ
span goesOn [] = 0
span goesOn (c ∷ l) = elim (goesOn c (get_or l 0 0)) [ true ↦ suc (span goesOn l) | false ↦ 0 ]

-- l begins with w
unfoldable pub begins : List ℕ → List ℕ → Bool
begins l [] = true
begins [] (x ∷ w) = false
begins (y ∷ l) (x ∷ w) = eqb x y && begins l w

-- how many bytes the sign has that was found
unfoldable pub length_of : Option String → ℕ
length_of none = 0
length_of (some s) = length (bytes s)

-- how many bytes the word has that l begins with; 0 where no word starts
unfoldable pub word_length : List ℕ → ℕ
word_length l =
    cond (letter (get_or l 0 0)) (span in_name l)
    (cond (digit (get_or l 0 0)) (span in_number l)
    (length_of (first_of (begins l) signs)))

-- what comes next in a text
pub data Next : Type 0 where
  found : Word → Next
  stops : ℕ → Next
  over : Next

-- what stands at a place behind blanks, where l is the text from there on
unfoldable pub next_at : ℕ → List ℕ → Next
next_at at [] = over
next_at at (c ∷ l) =
    cond (eqb (word_length (c ∷ l)) 0) (stops at)
    (cond (too_large (kind_of (take (word_length (c ∷ l)) (c ∷ l))) (take (word_length (c ∷ l)) (c ∷ l))) (stops at)
    (found (word_at at (take (word_length (c ∷ l)) (c ∷ l)))))

-- the place after the blanks that stand from a place on
unfoldable pub past_blanks : List ℕ → ℕ → ℕ
past_blanks s from = from + span in_blanks (drop from s)

-- the next word from a place of a text on
unfoldable pub next_word : List ℕ → ℕ → Next
next_word s from = next_at (past_blanks s from) (drop (past_blanks s from) s)

-- the place behind a word
abbrev pub behind : Word → ℕ
behind w = w.place + length w.bytes

-- the words, where `rest` is what stands from each place on
unfoldable pub follow : Next → (ℕ → Words) → Words
follow (found w) rest = before w (rest (behind w))
follow (stops e) rest = refused e
follow over rest = words []

-- the words from a place on, at most so many
unfoldable pub words_up_to : ℕ → List ℕ → ℕ → Words
words_up_to zero s from = words []
words_up_to (suc most) s from = follow (next_word s from) (words_up_to most s)

-- .. all of them: each has a byte, so there are no more than the text's length
unfoldable pub words_from : List ℕ → ℕ → Words
words_from s from = words_up_to (suc (length s)) s from

-- the words of a text
abbrev pub words_of : List ℕ → Words
words_of s = words_from s 0
