-- No definition but a way to compute: what the numbers are is said in Numbering.
-- Assumes nothing.
use Rattle.std.specs.Prelude.{◌≡◌, true, false, List, [], ◌∷◌, ◌++◌, ℕ, zero, suc, ◌+◌, ltb, length, get_or}
use Rattle.std.proofs.Math.Option.{Option, none, some}
use Rattle.reach_law.specs.Machine.{Machine}

module _ {S : Type 0} (dec : (a b : S) → Dec (a ≡ b)) where
  -- the number of s in the list, or the list's length where it is not there
  unfoldable pub number_of : List S → S → ℕ
  number_of [] s = 0
  number_of (a ∷ L) s = elim (dec a s) [ yes e ↦ 0 | no n ↦ suc (number_of L s) ]

  -- the number that input x leads to from state i
  unfoldable pub next_number : Machine S → List S → ℕ → ℕ → ℕ
  next_number m L i x = number_of L (m.step (get_or L i m.start) x)

  module _ (m : Machine S) (room : ℕ) where
    -- a state is met: it is known, or new and put at the end, or one too many
    unfoldable pub meet : List S → S → Option (List S)
    meet L s =
        elim (ltb (number_of L s) (length L)) [
          | true ↦ some L
          | false ↦ elim (ltb (length L) room) [ true ↦ some (L ++ (s ∷ [])) | false ↦ none ]
        ]

    -- the states that s leads to by k inputs from x on
    unfoldable pub row : ℕ → ℕ → S → List S → Option (List S)
    row zero x s L = some L
    row (suc k) x s L = elim (meet L (m.step s x)) [ none ↦ none | some M ↦ row k (x + 1) s M ]

    -- the rows from state i on, at most f of them
    unfoldable pub rows : ℕ → ℕ → List S → Option (List S)
    rows zero i L = some L
    rows (suc f) i L =
        elim (ltb i (length L)) [
          | true ↦ elim (row m.inputs 0 (get_or L i m.start) L) [ none ↦ none | some M ↦ rows f (i + 1) M ]
          | false ↦ some L
        ]

    -- from the start on, if the room holds that
    unfoldable pub find : Option (List S)
    find = elim (ltb 0 room) [ true ↦ rows room 0 (m.start ∷ []) | false ↦ none ]
