-- `kiss_read::put_blocks` meets its contract. The loop's invariant: the first b blocks are put.
-- Assumes nothing.
use Prim.Native.Nat.{◌*◌, ◌≤◌}
use mathlib.Core.Path.{◌≡◌}
use lib.ListN.{length}
use Rattle.file_law.specs.Table.{Table}
use Rattle.file_law.specs.File.{stream_of}
use Rattle.file_law.proofs.Lent.{written}
use Rattle.kiss_read.specs.Cursor.{TextOf, Ahead}
use Rattle.kiss_read.proofs.put_blocks.Given as goal

abbrev pub invariant-loop-b : goal.invariant-loop-b
invariant-loop-b l = (l.end ≤ length l.text) × (length l.file ≡ length l.initial.file) × ((t : Table) → TextOf t l.text l.shape.sizes.inputs l.shape.sizes.outputs l.shape.sizes.states → Ahead t l.text l.shape.sizes.inputs l.shape.sizes.outputs l.shape.sizes.states 0 l.at → (l.file ≡ written l.b l.total (stream_of t) l.initial.file) × Ahead t l.text l.shape.sizes.inputs l.shape.sizes.outputs l.shape.sizes.states (252 * l.b) l.end)
