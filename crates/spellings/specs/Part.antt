-- A part of a text.
-- Assumes nothing.
use Rattle.std.specs.Prelude.{List, ℕ, ◌-◌, take, drop}

-- the bytes of a text from a place to another
unfoldable pub part : List ℕ → ℕ → ℕ → List ℕ
part s from to = take (to - from) (drop from s)
