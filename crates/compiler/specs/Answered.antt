-- What the compile call's answer means, and what is said of it before the work area is wiped.
-- Assumes nothing.
use Rattle.std.specs.Prelude.{◌≡◌, List, ℕ, length, Result, Ok, Err}
use Rattle.file_law.specs.Answer.{Answer}
use Rattle.language.specs.Promise.{Made, Lent, Ended, all_zero, Compiles}
use Rattle.refusals.specs.declared.Cause.{Cause}
use Rattle.refusals.specs.declared.Refusal.{Refusal}
use Rattle.refusals.specs.Number.{answer_of}
use Rattle.compiler.specs.declared.Made as code

-- what the call answers: the file that was made, or a refusal
abbrev pub Compiled : Type 0
Compiled = Result code.Made (Refusal ℕ)

abbrev pub file_made : ℕ → ℕ → Compiled
file_made states blocks = Ok (record { states = states; blocks = blocks })

abbrev pub refusal : Cause → ℕ → Compiled
refusal cause place = Err (record { cause = cause; place = place })

-- "When an answer is an enum, a definition tells you this paper's number and values"
abbrev pub meaning : Compiled → Answer Made
meaning = answer_of (λ (m : code.Made). record { states = m.states; blocks = m.blocks })

-- what is lent: the source, the room, the work area and the file buffer
abbrev pub lent : List ℕ → ℕ → List ℕ → List ℕ → Lent
lent source room work buffer = record { source = source; room = room; work = work; buffer = buffer }

-- how it ends: the answer, the work area and the file buffer
abbrev pub ended : Compiled → List ℕ → List ℕ → Ended
ended r work buffer = record { answer = meaning r; work = work; buffer = buffer }

-- r is right for every work area of that length, once it is wiped
abbrev pub EndsSo : List ℕ → ℕ → ℕ → List ℕ → Compiled → List ℕ → Type 0
EndsSo source room size buffer r after =
    (work : List ℕ) → length work ≡ size → Compiles (lent source room work buffer) (ended r (all_zero work) after)
