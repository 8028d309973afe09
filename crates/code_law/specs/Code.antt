-- The number that C gets for the compile call's answer.
-- Assumes nothing.
use Rattle.std.specs.Prelude.{ℕ, ◌+◌, ◌*◌, ◌^◌}
use Rattle.file_law.specs.Answer.{Answer, gives, refuses}
use Rattle.language.specs.Promise.{Made}

-- house: states + 65,536 times blocks, or the refusal times 2^32 plus its place
abbrev pub code_of : Answer Made → ℕ
code_of (gives m) = m.states + 65536 * m.blocks
code_of (refuses number place) = number * 2 ^ 32 + place
