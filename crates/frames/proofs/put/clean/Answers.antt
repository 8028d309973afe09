-- `frames::put::clean` meets its contract.
-- Assumes nothing.
use Rattle.frames.proofs.Putting.{zero_on, zero_not, zero_over}
use Rattle.parts.specs.Beside.{beside}
use mathlib.Core.Path.{sym, ◌∙◌}
use native.Mathlib.Omega.{arith}
use Rattle.frames.proofs.put.clean.Goals as goal

pub returns-then-byte_at-ne0 : goal.returns-then-byte_at-ne0
returns-then-byte_at-ne0 c = zero_not (beside c.args.t.now).names c.args.to c.loop-i.i _ (omega arith) (λ e. c.if-byte_at-ne0.true ((rw c.from.ensures at c.byte_at.ensures) ∙ e)) c.loop-i.invariant

pub loop-i-preserved : goal.loop-i-preserved
loop-i-preserved c = zero_on (beside c.args.t.now).names c.args.to c.loop-i.i _ (omega arith) (sym (rw c.from.ensures at c.byte_at.ensures) ∙ c.if-byte_at-ne0.false) c.loop-i.invariant

pub returns : goal.returns
returns c = zero_over (beside c.args.t.now).names c.args.to c.loop-i.i _ (omega arith) c.loop-i.invariant
