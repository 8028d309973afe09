-- The numbers that C gets for what a source says, and for what its words and its grammar alone say.
-- Assumes nothing.
use Rattle.std.specs.Prelude.{◌≡◌, List, ℕ, ◌+◌, ◌*◌, ◌^◌, ◌%◌, Option, Some, None, Result, Ok, Err}
use Rattle.grammar.specs.Meaning as grammar
use Rattle.refusals.specs.declared.Refusal.{Refusal}
use Rattle.refusals.specs.Number.{number_of}
use Rattle.source.specs.Says.{Says}

-- house: 0, or the refusal times 2^32 plus its place
abbrev pub code_of : Result (Unit {0}) (Refusal ℕ) → ℕ
code_of (Ok x) = 0
code_of (Err r) = number_of r.cause * 2 ^ 32 + r.place

-- the number of an answer that is right for the source
pub record Coded (s : List ℕ) (r : ℕ) : Type 0 where
  pub answer : Result (Unit {0}) (Refusal ℕ)
  pub says : Says s answer
  pub is : r ≡ code_of answer

-- house: 0, or 4 times 2^32 plus the place of the 4, modulo 2^32 in a text that is longer
abbrev pub stop_code : Option ℕ → ℕ
stop_code None = 0
stop_code (Some e) = 4 * 2 ^ 32 + e % 2 ^ 32

-- the number of an answer that is right for the source's words and grammar
pub record Read (s : List ℕ) (r : ℕ) : Type 0 where
  pub answer : Result (Unit {0}) (Refusal ℕ)
  pub says : grammar.Says s answer
  pub is : r ≡ code_of answer
