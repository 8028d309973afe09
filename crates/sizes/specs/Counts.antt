-- What is told of an expression's sizes under open calls, whatever its formals stand for.
-- Assumes nothing.
use Rattle.std.specs.Prelude.{◌≡◌, List, ℕ, ◌+◌, ◌≤◌, min, max}
use Rattle.meaning.specs.Unexpanded.{Term, variable}
use Rattle.meaning.specs.Expansion.{Bound, replaced}
use Rattle.words.specs.Runs.{part}
use Rattle.hand.specs.declared.Here.{Here}
use Rattle.hand.specs.Along.{Near}
use Rattle.tiers.specs.Comes.{Comes, ComesBare}
use Rattle.parts.specs.Beside.{beside}
use Rattle.frames_law.specs.Frames.{told_at}
use Rattle.frames.specs.declared.Under.{Under}
use Rattle.frames.specs.declared.Sizes as frames
use Rattle.frames.specs.Open.{parts_of, levels_of, Sized, BindsUnder}
use Rattle.sizes.specs.declared.Extent.{Extent}

-- ---- an expression

-- a term's parts and levels, counted no further than one too many
pub record Counts (r : Extent) (e : Term) : Type 0 where
  pub parts : r.parts ≡ parts_of e
  pub levels : r.levels ≡ levels_of e

-- .. of what it stands for under u
pub record CountsUnder (s z : List ℕ) (u : Under) (r : Extent) (v : Term) : Type 0 where
  pub counts : (bound : List (Bound Term)) → BindsUnder s z u bound → Sized s z u.depth u.frame bound → Counts r (replaced (told_at u.at) bound v)

-- .. for all words that stand at h, whatever they come to as an expression of this strength; t is the whole area
abbrev pub Sizes : List ℕ → List ℕ → Under → ℕ → ℕ → Here → Extent → Type 0
Sizes s t u tier levels h r = Comes s tier levels h r.word (CountsUnder s (beside t).names u r)

-- .. or as an operand of this row, which has no level
abbrev pub SizesBare : List ℕ → List ℕ → Under → ℕ → Here → Extent → Type 0
SizesBare s t u row h r = ComesBare s row h r.word (CountsUnder s (beside t).names u r)

-- .. or as the name that h is, which is read up to the word w
abbrev pub SizesName : List ℕ → List ℕ → Under → Here → Here → Extent → Type 0
SizesName s t u h w r = (r.word ≡ w) × CountsUnder s (beside t).names u r (variable (record { bytes = part s h.place h.next; place = h.place }))

-- the levels fit, and the strength is one of the list or the next
pub record Ready (s : List ℕ) (tier levels : ℕ) (h : Here) : Type 0 where
  pub near : Near s h
  pub low : tier ≤ 6
  pub few : levels ≤ 32

-- ---- how the counts of an expression come from those of its parts

-- one part, up to the word w
abbrev pub leaf_of : Here → Extent
leaf_of w = record { word = w; parts = 1; levels = 0 }

-- a formal: its actual's parts, a level deeper
abbrev pub formal_of : Here → frames.Sizes → Extent
formal_of w k = record { word = w; parts = k.parts; levels = min (k.levels + 1) 33 }

-- a part and a level more
abbrev pub over_of : Here → Extent → Extent
over_of w g = record { word = w; parts = min (g.parts + 0 + 1) 1025; levels = min (g.levels + 1) 33 }

-- a level more
abbrev pub inside_of : Here → Extent → Extent
inside_of w g = record { word = w; parts = g.parts; levels = min (g.levels + 1) 33 }

-- an operator between two operands
abbrev pub joined_of : Extent → Extent → Extent
joined_of a b = record { word = b.word; parts = min (a.parts + b.parts + 1) 1025; levels = max a.levels b.levels }
