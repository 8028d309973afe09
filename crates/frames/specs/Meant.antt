-- What a formal stands for by its frame: the place of its actual's text, that one's sizes, and the name or the bit that it is.
-- Assumes nothing.
use Rattle.std.specs.Prelude as std
use Rattle.std.specs.Prelude.{◌≡◌, List, ℕ, ◌-◌, Some, None}
use Rattle.std.proofs.Math.Option.{Option, none, some}
use Rattle.meaning.specs.Tree.{Name}
use Rattle.meaning.specs.Unexpanded.{Term}
use Rattle.meaning.specs.Expansion.{Bound, actual_of, Form, one_name, one_bit, neither, form_of, moved}
use Rattle.words.specs.Runs.{part}
use Rattle.frames_law.specs.Frames.{told_at, TermAt, formal_in}
use Rattle.frames.specs.declared.Under.{Under}
use Rattle.frames.specs.declared.Sizes.{Sizes}
use Rattle.frames.specs.declared.Meant.{Meant}
use Rattle.frames.specs.declared.Meant.TheVariants as meant
use Rattle.frames.specs.Layout.{half_at, frames_of}
use Rattle.frames.specs.Open.{parts_of, levels_of, Sized, BindsUnder}

-- what the code found, as the definitions have it
abbrev pub placed : std.Option ℕ → Option ℕ
placed (Some p) = some p
placed None = none

-- where the text begins of the actual that these bytes stand for under u
abbrev pub formal_under : List ℕ → List ℕ → Under → List ℕ → Option ℕ
formal_under s z u x = formal_in s (frames_of s z) u.depth u.frame x

-- the text around the call is read under its frame
abbrev pub caller_of : List ℕ → Under → Under
caller_of z u = record { at = u.at; frame = half_at z u.frame; depth = u.depth - 1; seen = u.seen; top = u.top }

-- the sizes that the frame has of the actual
abbrev pub SizesOf : List ℕ → List ℕ → Under → List ℕ → Sizes → Type 0
SizesOf s z u x r =
    (bound : List (Bound Term)) → BindsUnder s z u bound → Sized s z u.depth u.frame bound
    → (e : Term) → actual_of bound x ≡ some e → (r.parts ≡ parts_of e) × (r.levels ≡ levels_of e)

-- the name from a to b
abbrev pub span_name : List ℕ → ℕ → ℕ → Name
span_name s a b = record { bytes = part s a b; place = a }

-- P7: what a name is where it is changed or indexed; a name that is no formal is itself
abbrev pub form_for : (ℕ → ℕ) → Name → Option Term → Form
form_for to v none = one_name (moved to v)
form_for to v (some t) = form_of t

-- what the code answers
abbrev pub form_in : List ℕ → (ℕ → ℕ) → Meant → Form
form_in s to (meant.Name a b) = one_name (moved to (span_name s a b))
form_in s to (meant.Bit a b j) = one_bit (moved to (span_name s a b)) j
form_in s to meant.Neither = neither

abbrev pub MeantBy : List ℕ → List ℕ → Under → ℕ → ℕ → Meant → Type 0
MeantBy s z u a b r =
    (bound : List (Bound Term)) → BindsUnder s z u bound
    → form_in s (told_at u.at) r ≡ form_for (told_at u.at) (span_name s a b) (actual_of bound (part s a b))

-- what the text from a place on is by itself, whatever term it comes to
abbrev pub SingleBy : List ℕ → ℕ → Meant → Type 0
SingleBy s q r = (e : Term) → TermAt s q e → form_in s (λ p. p) r ≡ form_of e

-- P8: bit j of a name; there is none of anything else
abbrev pub bit_of : Meant → ℕ → Meant
bit_of (meant.Name a b) j = meant.Bit a b j
bit_of (meant.Bit a b i) j = meant.Neither
bit_of meant.Neither j = meant.Neither
