-- A number for each kind of word, for code: 1 a name, 2 a number, then the signs and the reserved words in the order of their lists. 0 is no word's.
-- Assumes nothing.
use Rattle.std.specs.Prelude.{List, ◌∷◌, ◌++◌, map, ℕ, get_or}
use Rattle.language.specs.Words.{Kind, name, number, the, signs, reserved}

-- what stands for no word
abbrev pub no_kind : Kind
no_kind = the ""

unfoldable pub all_kinds : List Kind
unfolding signs reserved
all_kinds = no_kind ∷ name ∷ number ∷ map the (signs ++ reserved)

unfoldable pub kind_at : ℕ → Kind
unfolding all_kinds
kind_at n = get_or all_kinds n no_kind

-- the numbers from 1 on and below this are kinds'
abbrev pub used_kinds : ℕ
used_kinds = 64
