-- Every word that the grammar spells is a word that a text can have: its bytes are cut as that sign or reserved word.
-- Assumes nothing.
use mathlib.Core.Bool.{Bool, true, ◌&&◌}
use mathlib.Core.Path.{◌≡◌, refl}
use mathlib.Core.List.{List, [], ◌∷◌}
use Rattle.ll1.specs.Grammar.{word, part, In, Out}
use Rattle.language.specs.Words.{bytes, digit, signs, reserved, same, first_of, spelled, kind_of, name, number, the}
use Rattle.language.specs.Grammar.{Part, Line, binding, csml}
use Rattle.language.proofs.EveryPart.{every-part}
use Rattle.language.proofs.Claims.{same_kind}

abbrev row_met : Line → Bool
row_met [] = true
row_met (word name ∷ r) = row_met r
row_met (word number ∷ r) = row_met r
row_met (word (the s) ∷ r) = same_kind (kind_of (bytes s)) (the s) && row_met r
row_met (part n ∷ r) = row_met r
row_met (In ∷ r) = row_met r
row_met (Out ∷ r) = row_met r

abbrev met : List Line → Bool
met [] = true
met (r ∷ rows) = row_met r && met rows

pub all-met : (n : Part) → met (csml n) ≡ true
unfolding bytes digit signs reserved same first_of spelled kind_of binding csml
all-met = every-part (λ n. met (csml n)) refl (λ n. refl) (λ n. refl)
