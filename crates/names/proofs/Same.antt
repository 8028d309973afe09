-- The two ways to say that bytes are the same: of words, and of names.
-- Assumes nothing.
use Rattle.std.proofs.Common.{◌≡◌, ℕ, Bool, true, false, cond, ◌&&◌, eqb, List, [], ◌∷◌, refl}
use Rattle.meaning.specs.Declared.{same_bytes}
use Rattle.language.specs.Words.{same}

pub same_bytes_lem : (x y : List ℕ) → same x y ≡ same_bytes x y
unfolding same same_bytes
same_bytes_lem [] [] = refl
same_bytes_lem [] (c ∷ y) = refl
same_bytes_lem (b ∷ x) [] = refl
same_bytes_lem (b ∷ x) (c ∷ y) = go (eqb b c) (same_bytes_lem x y)
  where
    go : (t : Bool) → same x y ≡ same_bytes x y → t && same x y ≡ cond t (same_bytes x y) false
    go true e = e
    go false e = refl
