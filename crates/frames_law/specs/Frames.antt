-- The frames of the calls that are open while a body is read, and what the formals of a frame's procedure stand for (P4, P9). How a frame lies in bytes is left to the code.
-- Assumes nothing.
use Rattle.std.specs.Prelude.{cond, ◌≡◌, List, [], ◌∷◌, map, ℕ, zero, suc, ltb}
use Rattle.std.proofs.Math.Option.{Option, none, some}
use Rattle.meaning.specs.Tree.{Name}
use Rattle.meaning.specs.Declared.{same_bytes}
use Rattle.meaning.specs.Unexpanded.{Term}
use Rattle.meaning.specs.Expansion.{Bound, bind, replaced}
use Rattle.language.specs.Words.{Word}
use Rattle.language.specs.Scan.{Next, found, stops, over, next_word}
use Rattle.language.specs.Grammar.{Expression, most_levels}
use Rattle.language.specs.Trees.{name_at}
use Rattle.descent_law.specs.Told.{Told}
use Rattle.hand.specs.Along.{Along}

-- no call is open
abbrev pub no_place : ℕ
no_place = 65535

-- P9: the place told is the outermost call's where one is open, else the word's own
unfoldable pub told_at : ℕ → ℕ → ℕ
told_at at p = cond (ltb at no_place) at p

-- for each frame, by its number: the frame under which its call stands, the places of its procedure's formals, and where the texts of the actuals begin
pub record Frames : Type 0 where
  pub caller : ℕ → ℕ
  pub formals : ℕ → List ℕ
  pub actuals : ℕ → List ℕ

-- the bytes of the word from a place on
unfoldable pub bytes_of : Next → List ℕ
bytes_of (found w) = w.bytes
bytes_of (stops e) = []
bytes_of over = []

abbrev pub bytes_at : List ℕ → ℕ → List ℕ
bytes_at s p = bytes_of (next_word s p)

-- where the actual's text begins of the first formal that has these bytes
unfoldable pub actual_at : List ℕ → List ℕ → List ℕ → List ℕ → Option ℕ
actual_at s [] qs x = none
actual_at s (p ∷ ps) [] x = none
actual_at s (p ∷ ps) (q ∷ qs) x = cond (same_bytes (bytes_at s p) x) (some q) (actual_at s ps qs x)

-- where the actual's text begins of the formal that has these bytes, under so many open calls; the program's own text has none
abbrev pub formal_in : List ℕ → Frames → ℕ → ℕ → List ℕ → Option ℕ
formal_in s l zero frame x = none
formal_in s l (suc d) frame x = actual_at s (l.formals frame) (l.actuals frame) x

-- the frames of d open calls, from this one down, are the same
unfoldable pub Alike : Frames → Frames → ℕ → ℕ → Type 0
Alike l m zero frame = Unit
Alike l m (suc d) frame = (m.caller frame ≡ l.caller frame) × (m.formals frame ≡ l.formals frame) × (m.actuals frame ≡ l.actuals frame) × Alike l m d (l.caller frame)

-- one for each place
abbrev pub Each : {A : Type 0} → (ℕ → A → Type 0) → List ℕ → List A → Type 0
Each R [] [] = Unit
Each R [] (x ∷ xs) = ⊥
Each R (p ∷ ps) [] = ⊥
Each R (p ∷ ps) (x ∷ xs) = R p x × Each R ps xs

module _ (s : List ℕ) where
  -- at a place stands a name; at a place begins the text of a term
  abbrev pub NamedAt : ℕ → Name → Type 0
  NamedAt p n = (w : Word) × (next_word s p ≡ found w) × (n ≡ name_at w)

  abbrev pub TermAt : ℕ → Term → Type 0
  TermAt p t = (f : ℕ) × (ws : List Word) × (rest : List Word) × Along s p ws × Told f Expression most_levels ws t rest

  -- under d open calls: what a frame's formals are bound to, all places told as `at`; frame 0 is the program's own text
  unfoldable pub Framed : Frames → ℕ → ℕ → ℕ → List (Bound Term) → Type 0
  Framed l at zero frame bound = (frame ≡ 0) × (bound ≡ [])
  Framed l at (suc d) frame bound =
      (ns : List Name) × (ts : List Term) × (outer : List (Bound Term))
      × Each NamedAt (l.formals frame) ns × Each TermAt (l.actuals frame) ts × Framed l at d (l.caller frame) outer × (bound ≡ bind ns (map (replaced (told_at at) outer) ts))

  -- what is found for a formal is its actual, as the caller has it: the term whose text begins there, replaced; what is not found is no formal
  abbrev pub Stood : ℕ → List (Bound Term) → Option ℕ → Option Term → Type 0
  Stood at outer none o = o ≡ none
  Stood at outer (some q) o = (t : Term) × TermAt q t × (o ≡ some (replaced (told_at at) outer t))
