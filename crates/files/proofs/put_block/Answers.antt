use Prim.Native.Nat.{ℕ, ◌+◌, ◌*◌}
use mathlib.Core.Path.{◌≡◌, ap, ◌∙◌}
use lib.ListN.{get_or}
use Rattle.files.specs.Written.{stream_from}
use Rattle.files.proofs.Blocks.{block_put}
use Rattle.files.proofs.put_block.Goals as goal

pub returns : goal.returns
returns c = let z = c.args.sizes in
    let s = stream_from c.args.area.now z.inputs z.outputs z.states in
    let from : 252 * c.from.result ≡ 252 * c.args.b = ap (λ (x : ℕ). 252 * x) c.from.ensures in
    c.write_block.ensures
    ∙ block_put c.args.file.now _ s c.args.b c.args.total (λ j h. c.fill_piece.ensures.1 j h ∙ ap (λ (x : ℕ). get_or s (2 * x + j) 0) from)
