-- `wides::calls::of_call` meets its contract.
-- Assumes nothing.
use Rattle.words.specs.Runs.{part}
use Rattle.parts.specs.Beside.{beside}
use Rattle.wides.proofs.Filling.{call_none, call-other, call-row}
use Rattle.wides.proofs.calls.of_call.Goals as goal

pub returns-in_default : goal.returns-in_default
returns-in_default c = call_none c.args.s.now (beside c.args.t.now).names (part c.args.s.now c.args.a c.args.b) c.args.n c.args.count c.in_default.ensures

pub returns-then-h-count : goal.returns-then-h-count
returns-then-h-count c = call-row c.args.s.now (beside c.args.t.now).names (part c.args.s.now c.args.a c.args.b) c.args.n c.args.count c.in-Some.ensures c.procedure_at-p.ensures (rw c.from.ensures at c.head_of-h.ensures.0) c.if-h-count.true c.wide_at.ensures

pub returns-else-h-count : goal.returns-else-h-count
returns-else-h-count c = call-other c.args.s.now (beside c.args.t.now).names (part c.args.s.now c.args.a c.args.b) c.args.n c.args.count c.in-Some.ensures c.procedure_at-p.ensures (rw c.from.ensures at c.head_of-h.ensures.0) c.if-h-count.false
