-- `frames::find::formal` meets its contract.
-- Assumes nothing.
use Rattle.std.proofs.Common.{refl}
use Rattle.frames.proofs.Formal.{formal-none, formal-some}
use Rattle.parts.specs.Beside.{beside}
use Rattle.words.specs.Runs.{part}
use Rattle.frames.proofs.find.formal.Goals as goal

pub returns-in_err-i : goal.returns-in_err-i
returns-in_err-i c = let a = c.args in rw c.from_residual.ensures (formal-none a.s.now (beside a.t.now).names a.u.frame (part a.s.now a.a a.b) c.in_err-i.ensures a.u.depth c.if-u-eq0.false refl)

pub returns : goal.returns
returns c = let a = c.args in formal-some a.s.now (beside a.t.now).names a.u.frame (part a.s.now a.a a.b) c.in_ok-i.ensures a.u.depth c.in_ok-i.i c.place_at.result c.if-u-eq0.false refl (rw (c.from.ensures, c.from-2.ensures) at c.place_at.ensures.0)
