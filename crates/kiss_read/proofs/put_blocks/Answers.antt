-- `kiss_read::put_blocks` meets its contract. The loop's invariant: the first b blocks are put.
-- Assumes nothing.
use native.Mathlib.Omega.{arith}
use Rattle.kiss_read.proofs.Blocks.{written_next, written_none}
use Prim.Native.Nat.{ℕ}
use mathlib.Core.Path.{◌≡◌, refl, ap, ◌∙◌}
use Rattle.file_law.specs.File.{stream_of}
use Rattle.file_law.proofs.Lent.{written}
use Rattle.kiss_read.proofs.put_blocks.Goals as goal

pub loop-b-init : goal.loop-b-init
loop-b-init c = (c.requires.0, refl, λ t T a. (written_none (stream_of t) c.args.file.now c.args.total, a))

pub put_block-end-requires : goal.put_block-end-requires
put_block-end-requires c = (c.loop-b.invariant.0, omega (arith, c.loop-b-test.true, c.requires.1), c.requires.1)

pub loop-b-preserved : goal.loop-b-preserved
loop-b-preserved c =
    let l = c.loop-b in
    let p = c.put_block-end.ensures in
    (p.inside, p.long ∙ l.invariant.1, λ t T a. let u = l.invariant.2 t T a in let g = p.is t T u.1 in (g.0 ∙ written_next (stream_of t) l.file c.args.file.now l.b c.args.total u.0, g.1))

pub returns : goal.returns
returns c =
    let l = c.loop-b in
    let e : l.b ≡ c.args.total = omega arith in
    record { long = l.invariant.1; is = λ t T a. (l.invariant.2 t T a).0 ∙ ap (λ (i : ℕ). written i c.args.total (stream_of t) c.args.file.now) e }
