-- The numbers of the refusals, and what an answer with one of them is.
-- Assumes nothing.
use Rattle.std.specs.Prelude.{ℕ, ◌+◌, ◌*◌, Result, Ok, Err, Option, Some, List, codes}
use Rattle.std.specs.Fmt.{decimal, ◌++?◌}
use Rattle.file_law.specs.Answer.{Answer, gives, refuses}
use Rattle.refusals.specs.declared.Cause.{Cause}
use Rattle.refusals.specs.declared.Cause.TheVariants as cause
use Rattle.refusals.specs.declared.Refusal.{Refusal}

-- R1, F5, F7, K2, K4: the number of each cause
abbrev pub number_of : Cause → ℕ
number_of cause.Room = 1
number_of cause.WorkArea = 2
number_of cause.TooLong = 3
number_of cause.NoWord = 4
number_of cause.NoProgram = 5
number_of cause.Name = 6
number_of cause.Kind = 7
number_of cause.Jump = 8
number_of cause.Size = 9
number_of cause.WorstSize = 10
number_of cause.States = 11
number_of cause.Buffer = 12
number_of cause.NotInTable = 14
number_of cause.NoKiss = 15
number_of cause.Length = 21
number_of cause.BlockNumber = 22
number_of cause.Check = 23
number_of cause.Content = 24

-- F9, K6: the number that C gets
abbrev pub code_of : Refusal ℕ → ℕ
code_of r = number_of r.cause * 4294967296 + r.place

-- what a value or a refusal answers, if f is what the value means
abbrev pub answer_of : {A B : Type 0} → (A → B) → Result A (Refusal ℕ) → Answer B
answer_of f (Ok x) = gives (f x)
answer_of f (Err r) = refuses (number_of r.cause) r.place

-- what a refusal prints, if text is what its place prints
abbrev pub refusal_text : {P : Type 0} → (P → Option (List ℕ)) → Refusal P → Option (List ℕ)
refusal_text text r = Some (codes "refused ") ++? Some (decimal (number_of r.cause)) ++? Some (codes " at ") ++? text r.place
