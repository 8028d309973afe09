-- P6: the procedure that a name calls: the last one of this name that can be called.
-- Assumes nothing.
use Rattle.std.specs.Prelude.{cond, List, ℕ, zero, suc}
use Rattle.std.proofs.Math.Option.{Option, none, some}
use Rattle.meaning.specs.Declared.{same_bytes}
use Rattle.frames_law.specs.Frames.{bytes_at}
use Rattle.frames.specs.Layout.{procedure_at}

-- among the first n
unfoldable pub row_in : List ℕ → List ℕ → ℕ → List ℕ → Option ℕ
row_in s z zero x = none
row_in s z (suc n) x = cond (same_bytes (bytes_at s (procedure_at z n)) x) (some n) (row_in s z n x)
