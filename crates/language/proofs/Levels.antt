-- Levels stand where the rules put them: in every row of the grammar a level opens right before `(`, `!` or the first word of a compound statement, and before nothing else,
-- and the row ends where it closes. By computation over all rows; how many levels may be open is shown in crates/trials.
-- Assumes nothing.
use mathlib.Core.Bool.{Bool, true, false, cond}
use mathlib.Core.Path.{◌≡◌, refl}
use mathlib.Core.List.{List, [], ◌∷◌}
use Rattle.ll1.specs.Grammar.{word, part, In, Out}
use Rattle.language.specs.Words.{Kind, the}
use Rattle.language.specs.Grammar.{Part, Line, binding, csml}
use Rattle.language.proofs.Claims.{same_kind, these}
use Rattle.language.proofs.EveryPart.{every-part}

abbrev one_of : Kind → List Kind → Bool
one_of k [] = false
one_of k (j ∷ js) = cond (same_kind k j) true (one_of k js)

-- the words that open a level
abbrev opening : Kind → Bool
opening k = one_of k (these ("(" ∷ "!" ∷ "if" ∷ "while" ∷ "loop" ∷ "switch" ∷ "parallel" ∷ []))

-- .. but the `loop` behind `do` is the `while`'s
abbrev opens_after : Bool → Kind → Bool
opens_after behind k = cond behind (cond (same_kind k (the "loop")) false (opening k)) (opening k)

-- from the opening word on: no other level opens, and the row ends with the mark that closes this one
abbrev closes : Bool → Line → Bool
closes behind [] = false
closes behind (In ∷ r) = false
closes behind (Out ∷ []) = true
closes behind (Out ∷ s ∷ r) = false
closes behind (part p ∷ r) = closes false r
closes behind (word k ∷ r) = cond (opens_after behind k) false (closes (same_kind k (the "do")) r)

abbrev opens : Line → Bool
opens [] = false
opens (In ∷ r) = false
opens (Out ∷ r) = false
opens (part p ∷ r) = false
opens (word k ∷ r) = cond (opening k) (closes false r) false

-- a row: no opening word without its mark, no mark without its word
abbrev marked : Line → Bool
marked [] = true
marked (In ∷ r) = opens r
marked (Out ∷ r) = false
marked (part p ∷ r) = marked r
marked (word k ∷ r) = cond (opening k) false (marked r)

abbrev all_marked : List Line → Bool
all_marked [] = true
all_marked (r ∷ rows) = cond (marked r) (all_marked rows) false

pub levels_stand : (n : Part) → all_marked (csml n) ≡ true
unfolding csml binding
levels_stand = every-part (λ n. all_marked (csml n)) refl (λ n. refl) (λ n. refl)
