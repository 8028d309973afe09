-- What the answer says in the terms of the language.
-- Assumes nothing.
use Rattle.std.specs.Prelude.{◌≡◌, ◌⊎◌, List, ℕ, ◌≤◌, ◌<◌, length, None, Result, Ok, Err}
use Rattle.language.specs.Words.{Word}
use Rattle.language.specs.Scan.{words_from, words_of}
use Rattle.language.specs.Grammar.{program, refuses, Checks}
use Rattle.language.specs.Texts.{most_bytes}
use Rattle.words.specs.Meaning.{stop_of}
use Rattle.refusals.specs.declared.Refusal.{Refusal}
use Rattle.refusals.specs.Number.{number_of}

-- a text of at most 8,192 bytes is a program; or it is refused with 3 at 0 for its length, else with the definition's own 4 or 5
abbrev pub Says : List ℕ → Result (Unit {0}) (Refusal ℕ) → Type 0
Says s (Ok x) = (length s ≤ most_bytes) × ((ws : List Word) × Checks s (program ws))
Says s (Err r) = ((most_bytes < length s) × (number_of r.cause ≡ 3) × (r.place ≡ 0)) ⊎ ((length s ≤ most_bytes) × Checks s (refuses (number_of r.cause) r.place))

-- a short text that has fault 5 at a place if it has no 4, which can only stand from `next` on
pub record Fault (s : List ℕ) (place next : ℕ) : Type 0 where
  pub short : length s ≤ most_bytes
  pub inside : place ≤ length s
  pub rest : stop_of (words_from s next) ≡ stop_of (words_of s)
  pub five : stop_of (words_of s) ≡ None → Checks s (refuses 5 place)
