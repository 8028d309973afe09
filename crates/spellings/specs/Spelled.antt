-- The spellings: the signs and the reserved words, in one list.
-- Assumes nothing.
use Rattle.std.specs.Prelude.{List, ◌++◌, ℕ, get_or}
use Prim.Native.String.{String}
use Rattle.language.specs.Words.{bytes, signs, reserved}

-- the signs, then the reserved words, each list in the language's order
unfoldable pub spellings : List String
spellings = signs ++ reserved

-- spellings 0 to 23 are signs, 24 to 60 reserved words
abbrev pub sign_count : ℕ
sign_count = 24

abbrev pub spelling_count : ℕ
spelling_count = 61

-- the bytes of spelling k
unfoldable pub spelling : ℕ → List ℕ
spelling k = bytes (get_or spellings k "")
