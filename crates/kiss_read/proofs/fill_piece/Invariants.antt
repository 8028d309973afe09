-- `kiss_read::fill_piece` meets its contract. The loop's invariant: the first e words of the piece are the stream's.
-- Assumes nothing.
use Prim.Native.Nat.{ℕ, ◌+◌, ◌*◌, ◌<◌, ◌≤◌}
use mathlib.Core.Path.{◌≡◌}
use lib.ListN.{length, get_or}
use Rattle.file_law.specs.Table.{Table}
use Rattle.file_law.specs.File.{stream_of}
use Rattle.kiss_read.specs.Cursor.{TextOf, Ahead}
use Rattle.kiss_read.proofs.fill_piece.Given as goal

abbrev pub invariant-loop-e : goal.invariant-loop-e
invariant-loop-e l =
    (l.end ≤ length l.text) × (length l.piece ≡ 504)
    × ((t : Table) → TextOf t l.text l.shape.sizes.inputs l.shape.sizes.outputs l.shape.sizes.states → Ahead t l.text l.shape.sizes.inputs l.shape.sizes.outputs l.shape.sizes.states l.w l.at
    → ((j : ℕ) → j < 2 * l.e → get_or l.piece j 0 ≡ get_or (stream_of t) (2 * l.w + j) 0) × Ahead t l.text l.shape.sizes.inputs l.shape.sizes.outputs l.shape.sizes.states (l.w + l.e) l.end)
