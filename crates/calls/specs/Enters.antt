-- What is told of a call that is entered: its expansion under its frame, or that it stays.
-- Assumes nothing.
use Rattle.std.specs.Prelude.{◌≡◌, List, ◌∷◌, ℕ, ◌≤◌, ◌<◌, length, take, Option, Some, None}
use Rattle.meaning.specs.Tree.{Name}
use Rattle.meaning.specs.Unexpanded.{Term, Commands, call}
use Rattle.meaning.specs.Unexpanded as unexpanded
use Rattle.meaning.specs.Expansion.{Bound, moved, alone, expand_all, called}
use Rattle.language.specs.Words.{Word, the}
use Rattle.language.specs.Grammar.{Actuals, Statements, most_levels}
use Rattle.language.specs.Trees.{name_at}
use Rattle.descent_law.specs.Told.{Told}
use Rattle.hand.specs.declared.Here.{Here}
use Rattle.hand.specs.Along.{Stands, Near}
use Rattle.parts.specs.Beside.{tree_bytes, beside}
use Rattle.frames_law.specs.Frames.{told_at}
use Rattle.frames.specs.declared.Under.{Under}
use Rattle.frames.specs.Open.{Open}
use Rattle.frames.specs.Put.{Over}
use Rattle.calls.specs.declared.Entered.{Entered}
use Rattle.calls.specs.declared.Expanded.{Expanded}
use Rattle.calls.specs.Hands.{stand_for}

-- a procedure's body: its first word, what it comes to, and `endproc` behind it
pub record Body (s : List ℕ) (h : Here) (body : Commands) : Type 0 where
  pub words : List Word
  pub rest : List Word
  pub last : Word
  pub depth : ℕ
  pub levels : ℕ
  pub few : levels ≤ most_levels
  pub stands : Stands s h words
  pub told : Told depth Statements levels words body (last ∷ rest)
  pub ends : last.kind ≡ the "endproc"

-- P4: the call is its procedure's body, with its formals bound by the frame
pub record Expands (s z : List ℕ) (ps : List unexpanded.Procedure) (v : Name) (es : List Term) (r : Expanded) : Type 0 where
  pub before : List unexpanded.Procedure
  pub bound : List (Bound Term)
  pub body : Commands
  pub opened : Open s z before bound r.under
  pub read : Body s r.body body
  pub same : called ps r.under.at v es ≡ expand_all (called before r.under.at) (λ q. r.under.at) bound body

-- .. or, P7, it stays
abbrev pub Outcome : List ℕ → List ℕ → List unexpanded.Procedure → ℕ → Name → List Term → Option Expanded → Type 0
Outcome s z ps at v es (Some r) = Expands s z ps v es r
Outcome s z ps at v es None = called ps at v es ≡ alone (call v es)

-- nothing is written; or a frame, over zeros
abbrev pub Wrote : List ℕ → List ℕ → List ℕ → Under → Option Expanded → Type 0
Wrote s t v u (Some r) = Over (beside t).names (beside v).names u.top r.under.top × Near s r.body × (r.under.at ≡ u.at) × (r.under.seen < u.seen) × (u.top ≤ r.under.top)
Wrote s t v u None = beside v ≡ beside t

-- from the name of a call on
pub record Enters (s t v : List ℕ) (u : Under) (h : Here) (r : Entered) : Type 0 where
  pub near : Near s r.word
  pub past : h.next ≤ r.word.place
  pub tree : take tree_bytes v ≡ take tree_bytes t
  pub size : length v ≡ length t
  pub wrote : Wrote s t v u r.expanded
  pub told : (w o c : Word) (tail rest : List Word) → Stands s h (w ∷ o ∷ tail) → (f m : ℕ) (ts : List Term) → m ≤ most_levels → Told f Actuals m tail ts (c ∷ rest)
      → Stands s r.word rest
      × ((ps : List unexpanded.Procedure) (bound : List (Bound Term)) → Open s (beside t).names ps bound u → Outcome s (beside v).names ps u.at (moved (told_at u.at) (name_at w)) (stand_for u bound ts) r.expanded)
