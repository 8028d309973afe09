use native.Mathlib.Omega.{arith}
use Prim.Native.Nat.{◌*◌, ◌≤◌}
use mathlib.Core.Path.{◌≡◌, refl, ◌∙◌}
use lib.ListN.{length}
use Rattle.files.proofs.Blocks.{written_next, written_none, file_length, file_whole}
use Rattle.files.proofs.write_file.Goals as goal

pub returns-then-file-from : goal.returns-then-file-from
returns-then-file-from c = let z = c.args.sizes in
    (omega (arith, c.if-file-from.true, c.from.ensures, file_length c.args.area.now z.inputs z.outputs z.states c.requires _ c.blocks_for-total.ensures.0), refl)

pub loop-b-init : goal.loop-b-init
loop-b-init c = written_none _ c.args.file.now c.blocks_for-total.result

pub loop-b-preserved : goal.loop-b-preserved
loop-b-preserved c = c.put_block.ensures ∙ written_next _ c.loop-b.file c.args.file.now c.loop-b.b c.blocks_for-total.result c.loop-b.invariant

pub returns : goal.returns
returns c = let z = c.args.sizes in
    let T = c.blocks_for-total in
    let L = c.loop-b in
    let e : L.b ≡ T.result = omega (arith, c.loop-b-test.false) in
    let f = file_length c.args.area.now z.inputs z.outputs z.states c.requires _ T.ensures.0 in
    let h : 512 * T.result ≤ length c.args.file.now = omega (arith, c.if-file-from.false, c.from.ensures) in
    (omega (arith, f), file_whole c.args.area.now z.inputs z.outputs z.states c.requires _ T.ensures.0 L.file c.args.file.now L.b e h L.invariant, f)
