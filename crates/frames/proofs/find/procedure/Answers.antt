-- `frames::find::procedure` meets its contract.
-- Assumes nothing.
use Rattle.frames.proofs.Rowed.{row_here, row_on, row_over}
use Rattle.frames_law.specs.Frames.{bytes_at}
use Rattle.parts.specs.Beside.{beside}
use Rattle.words.specs.Runs.{part}
use Rattle.meaning.specs.Declared.{same_bytes}
use Prim.Native.Nat.{ℕ}
use mathlib.Core.Path.{sym, ◌∙◌, ap}
use native.Mathlib.Omega.{arith}
use Rattle.frames.proofs.find.procedure.Goals as goal

pub returns-then-same_at : goal.returns-then-same_at
returns-then-same_at c = row_here c.args.s.now (beside c.args.t.now).names (part c.args.s.now c.args.a c.args.b) c.loop-n.n _ (omega arith) (ap (λ (p : ℕ). same_bytes (bytes_at c.args.s.now p) (part c.args.s.now c.args.a c.args.b)) (sym (c.from.ensures ∙ c.procedure_at.ensures)) ∙ sym c.same_at.ensures ∙ c.if-same_at.true) c.loop-n.invariant

pub loop-n-preserved : goal.loop-n-preserved
loop-n-preserved c = row_on c.args.s.now (beside c.args.t.now).names (part c.args.s.now c.args.a c.args.b) c.loop-n.n _ (omega arith) (ap (λ (p : ℕ). same_bytes (bytes_at c.args.s.now p) (part c.args.s.now c.args.a c.args.b)) (sym (c.from.ensures ∙ c.procedure_at.ensures)) ∙ sym c.same_at.ensures ∙ c.if-same_at.false) c.loop-n.invariant

pub returns : goal.returns
returns c = row_over c.args.s.now (beside c.args.t.now).names (part c.args.s.now c.args.a c.args.b) c.loop-n.n _ (omega arith) c.loop-n.invariant
