-- Calls of compile, to say what holds of one or two of them.
-- Assumes nothing.
use Rattle.std.specs.Prelude.{List, ℕ, ◌*◌, take}
use Rattle.language.specs.Promise.{Compiles}
use Rattle.compiler.specs.Answered.{Compiled, lent, ended}

-- a call: what was lent, the answer, and the work area and the file buffer afterwards. Every call keeps the promise: that is `compile`'s contract
pub record Call : Type 0 where
  pub source : List ℕ
  pub room : ℕ
  pub work : List ℕ
  pub buffer : List ℕ
  pub answer : Compiled
  pub left : List ℕ
  pub written : List ℕ
  pub keeps : Compiles (lent source room work buffer) (ended answer left written)

-- the first blocks of the buffer
abbrev pub first_blocks : ℕ → Call → List ℕ
first_blocks blocks c = take (512 * blocks) c.written
