-- The words of a program come to its tree by the descent.
-- Assumes nothing.
use mathlib.Core.Bool.{Bool, true, ◌&&◌}
use mathlib.Core.Path.{◌≡◌, refl, subst}
use mathlib.Core.List.{List, [], ◌∷◌}
use Prim.Native.Nat.{ℕ, zero, suc, ◌<◌}
use native.Mathlib.Omega.{arith}
use lib.ListN.{length, get_or}
use Rattle.ll1.specs.Grammar.{Sentence, row_at}
use Rattle.ll1.specs.Rows.{closes}
use Rattle.ll1.proofs.Sets.{and_left, and_right}
use Rattle.language.specs.Words.{Word}
use Rattle.language.specs.Grammar.{Part, Program, Line, csml, binding, most_levels, whole_program, kinds}
use Rattle.language.specs.Trees.{Val, makes, no_word, source_of}
use Rattle.language.proofs.EveryPart.{every-part}
use Rattle.language.proofs.Claims.{claims, passes, program-good}
use Rattle.descent_law.specs.Told.{kind_of, Told}
use Rattle.descent_law.proofs.Given.{given}

unfoldable all_close : List Line → Bool
all_close [] = true
all_close (r ∷ rs) = closes 0 r && all_close rs

close_at : (rs : List Line) (i : ℕ) → i < length rs → all_close rs ≡ true → closes 0 (get_or rs i []) ≡ true
unfolding all_close
close_at [] i h e = absurd (omega arith)
close_at (r ∷ rs) zero h e = and_left (closes 0 r) (all_close rs) e
close_at (r ∷ rs) (suc i) h e = close_at rs i (omega arith) (and_right (closes 0 r) (all_close rs) e)

all-close : (n : Part) → all_close (csml n) ≡ true
unfolding csml binding closes all_close
all-close = every-part (λ n. all_close (csml n)) refl (λ n. refl) (λ n. refl)

pub closed : (n : Part) (i : ℕ) → i < length (csml n) → closes 0 (row_at csml n i) ≡ true
closed n i h = close_at (csml n) i h (all-close n)

-- the descent over a program's words, all of them, is the tree of the definition
pub program-told : (ws : List Word) (x : Sentence csml most_levels whole_program (kinds ws)) → (f : ℕ) × Told f Program most_levels ws (source_of ws x) []
program-told ws x =
    let (f, z) = given Word Val kind_of claims csml makes passes closed no_word ws x.1 program-good x.2 0 ws refl refl in
    let (mid, y, e) = z in (f, subst (λ (l : List Word). Told f Program most_levels ws (source_of ws x) l) e y)
