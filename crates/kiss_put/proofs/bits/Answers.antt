-- `kiss_put::bits` meets its contract. The loop's invariant: so many bits are put as the loop has counted.
-- Assumes nothing.
use native.Mathlib.Omega.{arith}
use Rattle.kiss_put.proofs.Puts.{halved, put-bit, put-start}
use mathlib.Core.Path.{◌≡◌, subst}
use Prim.Native.Nat.{ℕ}
use Rattle.kiss_law.specs.Text.{bits}
use Rattle.kiss_put.specs.Put.{Put}
use Rattle.kiss_law.proofs.Bits.{length-bits}
use Rattle.kiss_put.proofs.bits.Goals as goal

pub loop-init : goal.loop-init
loop-init c = (omega arith, put-start c.args.text.now c.args.at c.args.word (omega (arith, c.requires)))

pub byte-end-requires : goal.byte-end-requires
byte-end-requires c = omega (arith, c.requires, c.loop.invariant.1.end, c.loop.invariant.1.long, length-bits c.loop.counter c.args.word)

pub loop-preserved : goal.loop-preserved
loop-preserved c =
    let l = c.loop in
    (halved c.args.word l.rest l.counter l.invariant.0, put-bit c.args.word l.rest l.counter l.invariant.0 (omega (arith, c.requires)) l.invariant.1 c.byte-end.ensures)

pub returns : goal.returns
returns c = let e : c.loop.counter ≡ c.args.count = omega arith in subst (λ (x : ℕ). Put c.args.text.now c.args.at (bits x c.args.word) c.loop.end c.loop.text) e c.loop.invariant.1
