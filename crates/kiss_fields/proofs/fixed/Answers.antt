-- `kiss_fields::fixed` meets its contract.
-- Assumes nothing.
use native.Mathlib.Omega.{arith}
use Rattle.kiss_fields.proofs.Taking.{left-fixed, stood-near}
use Prim.Native.Nat.{ℕ}
use Rattle.kiss_fields.proofs.fixed.Goals as goal

pub returns-then-same-word : goal.returns-then-same-word
returns-then-same-word c = left-fixed c.args.text.now c.args.at c.args.word.now c.agree-same.result c.requires c.agree-same.ensures c.if-same-word.true

pub returns : goal.returns
returns c = stood-near 1 (λ (a : ℕ). c.args.word.now) c.args.text.now c.args.at 0 c.agree-same.result c.agree-same.result (omega arith) c.agree-same.ensures c.if-same-word.false (omega (arith, c.agree-same.ensures.within))
