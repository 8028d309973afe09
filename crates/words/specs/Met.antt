-- The words of a text up to its end, or to its first 4: what is met by going along.
-- Assumes nothing.
use Rattle.std.specs.Prelude.{◌≡◌, Option, Some, None, List, [], ◌∷◌, ℕ}
use Rattle.language.specs.Words.{Word, Words, words, refused}
use Rattle.language.specs.Scan.{found, stops, over, behind, next_word}

-- from a place on these words are met, and then this end
pub data Met (s : List ℕ) : ℕ → List Word → Option ℕ → Type 0 where
  ends : {from : ℕ} → next_word s from ≡ over → Met s from [] None
  halts : {from : ℕ} (e : ℕ) → next_word s from ≡ stops e → Met s from [] (Some e)
  meets : {from : ℕ} {ws : List Word} {n : Option ℕ} (w : Word) → next_word s from ≡ found w → Met s (behind w) ws n → Met s from (w ∷ ws) n

-- the language's words of a text of which so much was met: a 4 leaves none
abbrev pub ended : Option ℕ → List Word → Words
ended None ws = words ws
ended (Some e) ws = refused e
