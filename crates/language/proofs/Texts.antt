-- The words of a text that is written out, for examples. A proof that unfolds `words_in` cuts texts by computation.
-- Assumes nothing.
use mathlib.Core.List.{List, []}
use Prim.Native.String.{String}
use Rattle.language.specs.Words.{bytes, blank, letter, digit, in_name, signs, reserved, same, first_of, spelled, kind_of, value_from, too_large, Kind, Word, Words, words, refused}
use Rattle.language.specs.Scan.{span, begins, length_of, word_length, next_at, past_blanks, next_word, follow, words_up_to, words_from, words_of}
use Rattle.language.specs.Grammar.{kinds}

abbrev pub listed : Words → List Word
listed (words ws) = ws
listed (refused e) = []

unfoldable pub words_in : String → List Word
unfolding
    bytes blank letter digit in_name signs reserved same first_of spelled kind_of value_from too_large span begins length_of word_length next_at past_blanks
    next_word follow words_up_to words_from
words_in s = listed (words_of (bytes s))

abbrev pub kinds_in : String → List Kind
kinds_in s = kinds (words_in s)
