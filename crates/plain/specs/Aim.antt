-- Which variable, or which bit of one, a statement changes: by what its name stands for (P5, P8).
-- Assumes nothing.
use Rattle.std.specs.Prelude.{◌≡◌, List, ℕ, Option as Optional, Some, None}
use Rattle.meaning.specs.Tree.{Name, Change, Target, whole, part}
use Rattle.meaning.specs.Base.{head_at}
use Rattle.words.specs.Runs as words
use Rattle.names.specs.Look.{look_in}
use Rattle.hand.specs.declared.Here.{Here}
use Rattle.parts.specs.Beside.{beside}
use Rattle.frames.specs.declared.Meant.{Meant}
use Rattle.frames.specs.declared.Meant.TheVariants as meant
use Rattle.items.specs.declared.Marks.{Marks}
use Rattle.items.specs.declared.Read.{Read}
use Rattle.items.specs.Walk.{walked, walked_of, begun, change_kind, change_at}
use Rattle.plain.specs.declared.aim.Aim.{Aim}

-- the name from a to b, told at p; one without bytes is unknown
abbrev pub name_to : List ℕ → ℕ → Aim → Name
name_to s p g = record { bytes = words.part s g.a g.b; place = p }

-- a bit of it, or the whole
abbrev pub target : Name → Optional ℕ → Target Name
target v None = whole v
target v (Some j) = part v j

abbrev pub aimed : List ℕ → ℕ → Aim → Target Name
aimed s p g = target (name_to s p g) g.bit

-- where a name is assigned
abbrev pub name_aim : Meant → Aim
name_aim (meant.Name a b) = record { a = a; b = b; bit = None }
name_aim (meant.Bit a b j) = record { a = 0; b = 0; bit = None }
name_aim meant.Neither = record { a = 0; b = 0; bit = None }

-- where it is raised, lowered or inverted
abbrev pub whole_aim : Meant → Aim
whole_aim (meant.Name a b) = record { a = a; b = b; bit = None }
whole_aim (meant.Bit a b j) = record { a = a; b = b; bit = Some j }
whole_aim meant.Neither = record { a = 0; b = 0; bit = None }

-- .. or its bit j
abbrev pub part_aim : Meant → ℕ → Aim
part_aim (meant.Name a b) j = record { a = a; b = b; bit = Some j }
part_aim (meant.Bit a b i) j = record { a = 0; b = 0; bit = Some j }
part_aim meant.Neither j = record { a = 0; b = 0; bit = Some j }

-- a statement at p that changes what it is aimed at, its name told at q: it has begun with the node i
pub record Changes (s z : List ℕ) (count row i p q : ℕ) (g : Aim) (w : Here) (m : Marks) (t u : List ℕ) (r : Read) : Type 0 where
  pub word : r.word ≡ w
  pub kept : beside u ≡ beside t
  pub walks : (m₀ : Marks) (c : Change) → m ≡ begun m₀ p → i ≡ m₀.nodes → row ≡ change_kind c → walked_of r u ≡ change_at (look_in s z count) (head_at p) c (aimed s q g) (walked m₀ t)
