-- What the answers say in the terms of the language.
-- Assumes nothing.
use Rattle.std.specs.Prelude.{◌≡◌, Option, Some, None, List, ℕ, ◌≤◌, ◌<◌, length, drop}
use Rattle.language.specs.Words as Language
use Rattle.language.specs.Words.{Kind, name, number, the, value_of, Words, words, refused}
use Rattle.language.specs.Scan as Scan
use Rattle.language.specs.Scan.{found, stops, over, next_at, next_word}
use Rattle.words.specs.Kinds.{numbered, kind_count}
use Rattle.words.specs.Runs.{part}
use Rattle.words.specs.declared.Word.{Word}
use Rattle.words.specs.declared.Next.{Next}
use Rattle.words.specs.declared.Next.TheVariants.{Found, Stops, Over}

-- the bytes of a word of a text
abbrev pub bytes_of : List ℕ → Word → List ℕ
bytes_of s w = part s w.start w.end

-- .. and the word, as the language has it
abbrev pub word_in : List ℕ → Word → Language.Word
word_in s w = record { kind = numbered w.kind; place = w.start; bytes = bytes_of s w }

-- what comes next in a text, as the language has it
abbrev pub meaning : List ℕ → Next → Scan.Next
meaning s (Found w) = found (word_in s w)
meaning s (Stops e) = stops e
meaning s Over = over

-- the value that goes with a word: a number's own, else 0
abbrev pub worth : Kind → List ℕ → ℕ
worth name w = 0
worth number w = value_of w
worth (the s) w = 0

-- what a caller may count on, of a word that is found from a place on
pub record Sound (s : List ℕ) (from : ℕ) (w : Word) : Type 0 where
  pub later : from ≤ w.start
  pub some : w.start < w.end
  pub inside : w.end ≤ length s
  pub known : w.kind < kind_count
  pub value : w.value ≡ worth (numbered w.kind) (bytes_of s w)
  pub small : w.value < 65536

abbrev pub Holds : List ℕ → ℕ → Next → Type 0
Holds s from (Found w) = Sound s from w
Holds s from (Stops e) = (from ≤ e) × (e < length s)
Holds s from Over = Unit

-- the answer is right for the word that starts at a place
pub record Stands (s : List ℕ) (at : ℕ) (r : Next) : Type 0 where
  pub says : meaning s r ≡ next_at at (drop at s)
  pub holds : Holds s at r

-- the answer is right for the next word from a place on
pub record Answers (s : List ℕ) (from : ℕ) (r : Next) : Type 0 where
  pub says : meaning s r ≡ next_word s from
  pub holds : Holds s from r

-- refusal 4's place, if the words of a text have one: "no word starts here, name or number too large | that byte or word"
abbrev pub stop_of : Words → Option ℕ
stop_of (words ws) = None
stop_of (refused e) = Some e
