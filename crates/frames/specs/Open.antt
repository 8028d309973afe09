-- What is known while a text is read under open calls: the procedures that can be called, and the frame.
-- Assumes nothing.
use Rattle.std.specs.Prelude.{◌≡◌, List, [], ◌∷◌, ℕ, zero, suc, ◌+◌, ◌*◌, ◌≤◌, ◌<◌, min, length, get_or}
use Rattle.meaning.specs.Unexpanded.{Term}
use Rattle.meaning.specs.Unexpanded as unexpanded
use Rattle.meaning.specs.Expansion.{Bound, wide_all, wides}
use Rattle.meaning.specs.Levels.{levels_in}
use Rattle.meaning.specs.Items.{within}
use Rattle.meaning.specs.Base.{base_term}
use Rattle.language.specs.Words.{Word}
use Rattle.language.specs.Grammar.{Procedure, most_levels}
use Rattle.descent_law.specs.Told.{Told}
use Rattle.hand.specs.Along.{Along}
use Rattle.frames_law.specs.Frames.{TermAt, Framed, Each}
use Rattle.frames.specs.declared.Under.{Under}
use Rattle.frames.specs.Layout.{half_at, procedure_at, wide_at, frames_of, each_from, place_at, parts_at, levels_at, formal_count, frame_bytes, chain_bytes}

-- P1: behind `procedure`, from a place on, stands this procedure
abbrev pub ProcedureAt : List ℕ → ℕ → unexpanded.Procedure → Type 0
ProcedureAt s p q = (f : ℕ) × (k : ℕ) × (ws : List Word) × (rest : List Word) × (k ≤ most_levels) × Along s p ws × Told f Procedure k ws q rest

-- P6: the first n procedures, the last of them first, each with the activities that it can have (P14)
unfoldable pub Rows : List ℕ → List ℕ → ℕ → List unexpanded.Procedure → Type 0
Rows s z zero ps = ps ≡ []
Rows s z (suc n) ps =
    (p : unexpanded.Procedure) × (qs : List unexpanded.Procedure)
    × (ps ≡ p ∷ qs) × ProcedureAt s (procedure_at z n) p × (wide_at z n ≡ wide_all (wides qs) p.body) × Rows s z n qs

-- the parts of a term, and its levels, counted no further than one too many
abbrev pub parts_of : Term → ℕ
parts_of e = min (length (within (base_term e))) 1025

abbrev pub levels_of : Term → ℕ
levels_of e = min (levels_in e) 33

abbrev pub Measured : (Term → ℕ) → List ℕ → List (Bound Term) → Type 0
Measured f [] [] = Unit
Measured f [] (b ∷ bs) = ⊥
Measured f (n ∷ ns) [] = ⊥
Measured f (n ∷ ns) (b ∷ bs) = (n ≡ f b.actual) × Measured f ns bs

-- one for each term
abbrev pub Counted : (Term → ℕ) → List ℕ → List Term → Type 0
Counted f ns es = Each (λ n e. n ≡ f e) ns es

-- what a frame says of the sizes of its actuals; the program's own text has none
unfoldable pub Sized : List ℕ → List ℕ → ℕ → ℕ → List (Bound Term) → Type 0
Sized s z zero frame bound = bound ≡ []
Sized s z (suc d) frame bound = Measured parts_of (each_from parts_at z (frame + 4) (formal_count s z frame)) bound × Measured levels_of (each_from levels_at z (frame + 4) (formal_count s z frame)) bound

-- the frames of the open calls lie one above the other, the last of them below a place
unfoldable pub Nested : List ℕ → List ℕ → ℕ → ℕ → ℕ → Type 0
Nested s z zero frame top = Unit
Nested s z (suc d) frame top = (frame + frame_bytes s (half_at z (frame + 2)) ≤ top) × Nested s z d (half_at z frame) frame

-- these are the formals under u
abbrev pub BindsUnder : List ℕ → List ℕ → Under → List (Bound Term) → Type 0
BindsUnder s z u bound = Framed s (frames_of s z) u.at u.depth u.frame bound

-- a text is read under u: these procedures can be called, and these are the formals; there is room for every frame that may be asked for, and it is zero
pub record Open (s z : List ℕ) (ps : List unexpanded.Procedure) (bound : List (Bound Term)) (u : Under) : Type 0 where
  pub framed : BindsUnder s z u bound
  pub sized : Sized s z u.depth u.frame bound
  pub nested : Nested s z u.depth u.frame u.top
  pub rows : Rows s z u.seen ps
  pub long : 16384 ≤ length z
  pub all : ℕ
  pub some : u.seen ≤ all
  pub room : u.top + chain_bytes s z u.seen + all * 4 ≤ 16384
  pub zeros : (i : ℕ) → u.top ≤ i → i + all * 4 < 16384 → get_or z i 0 ≡ 0

-- n actuals lie from a place on: where their texts begin, and the sizes of what they stand for
pub record Handed (s z : List ℕ) (o n : ℕ) (ts es : List Term) : Type 0 where
  pub texts : Each (TermAt s) (each_from place_at z o n) ts
  pub parts : Counted parts_of (each_from parts_at z o n) es
  pub levels : Counted levels_of (each_from levels_at z o n) es

-- under what the body of the procedure of row r is read, whose name stands at p
abbrev pub called_under : List ℕ → ℕ → ℕ → Under → Under
called_under s p r u = record { at = u.at; frame = u.top; depth = u.depth + 1; seen = r; top = u.top + frame_bytes s p }
