-- What is promised: P7 under every binding that the frames have.
-- Assumes nothing.
use Rattle.std.specs.Prelude.{Bool, ◌≡◌, List, ◌∷◌, ℕ}
use Rattle.meaning.specs.Unexpanded.{Term, Commands}
use Rattle.meaning.specs.Expansion.{Bound, actual_of, is_name, is_bit, allowed_by}
use Rattle.language.specs.Words.{the, Word}
use Rattle.language.specs.Grammar.{Statements}
use Rattle.descent_law.specs.Told.{Told}
use Rattle.words.specs.Runs.{part}
use Rattle.hand.specs.declared.Here.{Here}
use Rattle.hand.specs.Along.{Stands}
use Rattle.frames.specs.declared.Under.{Under}
use Rattle.frames.specs.Open.{BindsUnder}
use Rattle.allow.specs.Steps.{asks}

-- P7: what may be assigned or indexed, and what may be changed whole
abbrev pub name_by : List (Bound Term) → List ℕ → Bool
name_by bound x = is_name (actual_of bound x)

abbrev pub bit_by : List (Bound Term) → List ℕ → Bool
bit_by bound x = is_bit (actual_of bound x)

-- the name from a to b is what was asked
pub record Fits (s z : List ℕ) (u : Under) (asked a b : ℕ) (r : Bool) : Type 0 where
  pub told : (bound : List (Bound Term)) → BindsUnder s z u bound → r ≡ asks (name_by bound) (bit_by bound) asked (part s a b)

-- for all words that stand there, whatever body they come to with `endproc` behind it
pub record Allows (s z : List ℕ) (u : Under) (h : Here) (r : Bool) : Type 0 where
  pub told : (bound : List (Bound Term)) → BindsUnder s z u bound → (ws : List Word) → Stands s h ws
      → (f k : ℕ) (body : Commands) (x : Word) (rest : List Word) → Told f Statements k ws body (x ∷ rest) → x.kind ≡ the "endproc" → r ≡ allowed_by bound body
