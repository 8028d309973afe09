-- What the answers say of a text, in the terms of the language.
-- Assumes nothing.
use Rattle.std.specs.Prelude.{List, ℕ, Result, Ok, Err}
use Rattle.meaning.specs.Declared.{Source}
use Rattle.language.specs.Texts.{good, refused, Reads}
use Rattle.stored.specs.Stored.{Stored}
use Rattle.refusals.specs.declared.Refusal.{Refusal}
use Rattle.refusals.specs.Number.{number_of}
use Rattle.source.specs.Area.{tree_of}
use Rattle.source.specs.declared.Program.{Program}

-- a program without a fault; or the definition's own refusal, 3 to 10, with its place
abbrev pub Says : List ℕ → Result (Unit {0}) (Refusal ℕ) → Type 0
Says s (Ok x) = (p : Source) × Reads s (good p)
Says s (Err r) = Reads s (refused (number_of r.cause) r.place)

-- .. and the program lies in the area's tree
abbrev pub ReadDone : List ℕ → List ℕ → Result Program (Refusal ℕ) → Type 0
ReadDone s area (Ok p) = Stored s (tree_of area) p.n p.inputs p.outputs p.word
ReadDone s area (Err r) = Reads s (refused (number_of r.cause) r.place)
