-- The kinds of words by number: 0 a name, 1 a number, 2 + k the spelling k of one list, which crates above name here.
-- Assumes nothing.
use Rattle.std.specs.Prelude.{ℕ, zero, suc, get_or}
use Rattle.language.specs.Words.{Kind, name, number, the}
pub use Rattle.spellings.specs.Spelled.{sign_count, spelling_count}
unfoldable pub use Rattle.spellings.specs.Spelled.{spellings, spelling}

-- the kind with a number: "keywords, `true`, `false` and `int` are never names", so a spelled word has a kind of its own
unfoldable pub numbered : ℕ → Kind
numbered zero = name
numbered (suc zero) = number
numbered (suc (suc k)) = the (get_or spellings k "")

-- kinds have the numbers below this one
abbrev pub kind_count : ℕ
kind_count = 63
