-- `kiss_put::decimal` meets its contract: the digits of a tenth, and the last one. The measure is the number.
-- Assumes nothing.
use native.Mathlib.Omega.{arith}
use mathlib.Core.Path.{subst}
use Prim.Native.Nat.{ℕ, ◌<◌, ◌/◌}
use Rattle.kiss_put.proofs.Puts.{length_tens, length-few, put-few, put_tens}
use Rattle.kiss_put.proofs.+decimal.Goals as goal

pub byte-requires : goal.byte-requires
byte-requires t c = omega (arith, length-few c.args.n c.if-n-lt10.true, c.requires.1)

pub returns-then-n-lt10 : goal.returns-then-n-lt10
returns-then-n-lt10 t c = put-few c.args.n c.if-n-lt10.true c.byte.ensures

pub decimal-end-requires : goal.decimal-end-requires
decimal-end-requires t c = (subst (λ (x : ℕ). c.args.n / 10 < x) c.decreases (omega arith), (omega (arith, c.requires.0), omega (arith, length_tens c.args.n c.if-n-lt10.false c.requires.0, c.requires.1)))

pub byte-requires-2 : goal.byte-requires-2
byte-requires-2 t c = omega (arith, length_tens c.args.n c.if-n-lt10.false c.requires.0, c.requires.1, c.decimal-end.ensures.end, c.decimal-end.ensures.long)

pub returns : goal.returns
returns t c = put_tens c.args.n c.if-n-lt10.false c.requires.0 c.requires.1 c.decimal-end.ensures c.byte-2.ensures
