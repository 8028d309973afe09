-- A word of a list of formals, and which of them has certain bytes.
-- Assumes nothing.
use Rattle.std.specs.Prelude.{cond, ◌≡◌, List, [], ◌∷◌, ℕ, suc}
use Rattle.std.proofs.Math.Option.{Option, none, some}
use Rattle.meaning.specs.Declared.{same_bytes}
use Rattle.language.specs.Scan.{Next}
use Rattle.words.specs.Runs.{part}
use Rattle.frames_law.specs.Frames.{bytes_of, bytes_at}
use Rattle.frames.specs.declared.list.Listed.{Listed}
use Rattle.frames.specs.Layout.{name_next, comma_next, past_next}

-- what is told of the next word
pub record Lists (s : List ℕ) (n : Next) (r : Listed) : Type 0 where
  pub name : r.name ≡ name_next n
  pub comma : r.comma ≡ comma_next n
  pub bytes : part s r.start r.end ≡ bytes_of n
  pub past : r.past ≡ past_next n

-- the first of these names that has certain bytes, counted from i on
unfoldable pub index_from : List ℕ → List ℕ → List ℕ → ℕ → Option ℕ
index_from s [] x i = none
index_from s (p ∷ ps) x i = cond (same_bytes (bytes_at s p) x) (some i) (index_from s ps x (suc i))

abbrev pub index_in : List ℕ → List ℕ → List ℕ → Option ℕ
index_in s ps x = index_from s ps x 0
