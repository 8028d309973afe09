-- `spellings::reserved_from` meets its contract: what begins with another byte is left out, and does not fit.
-- Assumes nothing.
use Prim.Native.Nat.{◌-◌}
use native.Mathlib.Omega.{arith}
use Rattle.spellings.specs.Spelled.{sign_count}
use Rattle.spellings.proofs.Fitting.{word_start, word_here, word_on, word_falls, word_over}
use Rattle.spellings.proofs.reserved_from.Goals as goal

pub loop-k-init : goal.loop-k-init
loop-k-init c =
    word_start c.args.s.now c.args.at c.args.e (omega arith) c.requires.2 c.requires.4

pub returns-then-is_reserved : goal.returns-then-is_reserved
returns-then-is_reserved c =
    word_here c.args.s.now c.args.at c.args.e (omega arith) c.requires.2 c.loop-k.invariant (omega arith) c.is_reserved.ensures c.if-is_reserved.true

pub loop-k-smaller : goal.loop-k-smaller
loop-k-smaller c =
    word_falls c.args.s.now c.args.at c.args.e (omega arith) c.requires.2 c.loop-k.invariant (omega arith) c.from-k.ensures
    (c.requires.0.told (c.loop-k.k - sign_count) (omega (arith, c.loop-k.invariant.above)))

pub loop-k-preserved : goal.loop-k-preserved
loop-k-preserved c =
    word_on c.args.s.now c.args.at c.args.e (omega arith) c.requires.2 c.loop-k.invariant (omega arith) c.from-k.ensures
    (c.requires.0.told (c.loop-k.k - sign_count) (omega (arith, c.loop-k.invariant.above))) c.is_reserved.ensures c.if-is_reserved.false

pub returns : goal.returns
returns c =
    word_over c.args.s.now c.args.at c.args.e (omega arith) c.requires.2 c.loop-k.invariant c.loop-k-test.false
