use Prim.Native.Nat.{ℕ, ◌+◌, ◌*◌, ◌<◌}
use mathlib.Core.Path.{◌≡◌}
use lib.ListN.{length, get_or}
use Rattle.files.specs.Written.{stream_from}
use Rattle.files.proofs.fill_piece.Given as goal

abbrev pub invariant-loop-e : goal.invariant-loop-e
invariant-loop-e l =
    (length l.piece ≡ 504)
    × ((j : ℕ) → j < 2 * l.e → get_or l.piece j 0 ≡ get_or (stream_from l.area l.sizes.inputs l.sizes.outputs l.sizes.states) (2 * l.from + j) 0)
