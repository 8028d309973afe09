-- What each case of the answer says, and what C gets.
-- Assumes nothing.
use Rattle.std.specs.Prelude.{◌≡◌, List, ℕ, Result}
use Rattle.file_law.specs.Answer.{Answer}
use Rattle.kiss_law.specs.Kiss.{KissReads, kiss_code}
use Rattle.refusals.specs.Number.{answer_of}
use Rattle.refusals.specs.declared.Refusal.{Refusal}

-- "When an answer is an enum, a definition tells you this paper's number and values"
abbrev pub meaning : Result ℕ (Refusal ℕ) → Answer ℕ
meaning = answer_of (λ blocks. blocks)

-- the number of an answer that is right for what was lent, with the buffer as it is
pub record ReadCoded (text buffer : List ℕ) (r : ℕ) (after : List ℕ) : Type 0 where
  pub answer : Answer ℕ
  pub reads : KissReads text buffer answer after
  pub is : r ≡ kiss_code answer
