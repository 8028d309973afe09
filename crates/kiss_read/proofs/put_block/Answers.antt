-- `kiss_read::put_block` meets its contract: a piece, and its block.
-- Assumes nothing.
use native.Mathlib.Omega.{arith}
use Rattle.kiss_read.proofs.Blocks.{block_put}
use Prim.Native.Nat.{ℕ, ◌+◌, ◌*◌}
use mathlib.Core.Path.{◌≡◌, ap, ◌∙◌, subst}
use lib.ListN.{length}
use Rattle.file_law.specs.File.{stream_of}
use Rattle.file_law.proofs.Lent.{length_stays}
use Rattle.kiss_read.specs.Cursor.{Ahead}
use Rattle.kiss_read.proofs.put_block.Goals as goal

pub returns : goal.returns
returns c = let F = c.fill_piece-end.ensures in record { inside = F.inside; long = ap length c.write_block.ensures ∙ length_stays c.args.file.now c.args.b c.args.total c.fill_piece-end.new.piece; is = λ t T a. let u = F.is t T a in (c.write_block.ensures ∙ block_put c.args.file.now c.fill_piece-end.new.piece (stream_of t) c.args.b c.args.total u.0, subst (λ (i : ℕ). Ahead t c.args.text.now c.args.shape.sizes.inputs c.args.shape.sizes.outputs c.args.shape.sizes.states i c.fill_piece-end.result) (let z : 252 * c.args.b + 252 ≡ 252 * (c.args.b + 1) = omega arith in z) u.1) }
