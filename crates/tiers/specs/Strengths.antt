-- The strength of an operator between its operands, by the number of its kind; 255 for every other word. Made by tools/tables.py; nothing rests on how: proofs/Chosen tests every entry.
-- Assumes nothing.
use Rattle.std.specs.Prelude.{List, [], ◌∷◌, ℕ}

abbrev pub strengths : List ℕ
strengths = 255 ∷ 255 ∷ 255 ∷ 1 ∷ 2 ∷ 255 ∷ 2 ∷ 255 ∷ 255 ∷ 255 ∷ 255 ∷ 255 ∷ 255 ∷ 255 ∷ 255 ∷ 255 ∷ 255 ∷ 255 ∷ 2 ∷ 2 ∷ 0 ∷ 4 ∷ 4 ∷ 5 ∷ 5 ∷ 5 ∷ []
