-- What each case of the answer says in the terms of the table file.
-- Assumes nothing.
use Rattle.std.specs.Prelude.{ℕ, Result}
use Rattle.file_law.specs.Answer.{Answer}
use Rattle.file_law.specs.Reading as law
use Rattle.refusals.specs.Number.{answer_of}
use Rattle.refusals.specs.declared.Refusal.{Refusal}
use Rattle.stream.specs.declared.sizes.Sizes.{Sizes}

-- "Every call ends with the answer or with exactly the refusal and place"
abbrev pub meaning : Result Sizes (Refusal ℕ) → Answer law.Sizes
meaning = answer_of (λ z. record { inputs = z.inputs; outputs = z.outputs; states = z.states })
