-- The number that C gets for the compile call's answer.
-- Assumes nothing.
use Rattle.std.specs.Prelude.{◌≡◌, List, ℕ}
use Rattle.file_law.specs.Answer.{Answer}
use Rattle.language.specs.Promise.{Made, Lent, Compiles}
use Rattle.code_law.specs.Code.{code_of}

-- the number of an answer that is right for what was lent, with the work area and the file buffer as they are
pub record Coded (l : Lent) (r : ℕ) (work buffer : List ℕ) : Type 0 where
  pub answer : Answer Made
  pub compiles : Compiles l (record { answer = answer; work = work; buffer = buffer })
  pub is : r ≡ code_of answer
