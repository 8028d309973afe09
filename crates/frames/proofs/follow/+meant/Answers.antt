-- `frames::follow::meant` meets its contract: each call is under one open call less.
-- Assumes nothing.
use Rattle.parts.specs.Beside.{beside}
use Rattle.frames.proofs.Following.{meant_none, meant_name, meant_bit, meant_neither}
use Rattle.frames.proofs.follow.+meant.Goals as goal

pub returns-in_default : goal.returns-in_default
returns-in_default t c = meant_none c.args.s.now (beside c.args.t.now).names c.args.u c.args.a c.args.b c.in_default.ensures

pub returns-in-Name : goal.returns-in-Name
returns-in-Name t c = meant_name c.args.s.now (beside c.args.t.now).names c.args.u c.args.a c.args.b c.in-Some.ensures c.single.ensures c.in-Name.a c.in-Name.b c.meant.result c.in-Name.is (rw c.caller-v.ensures at c.meant.ensures)

pub returns-in-Bit : goal.returns-in-Bit
returns-in-Bit t c = rw c.bit_of.ensures (meant_bit c.args.s.now (beside c.args.t.now).names c.args.u c.args.a c.args.b c.in-Some.ensures c.single.ensures c.in-Bit.a c.in-Bit.b c.in-Bit.j c.meant-in-Bit.result c.in-Bit.is (rw c.caller-v.ensures at c.meant-in-Bit.ensures))

pub returns-in-Neither : goal.returns-in-Neither
returns-in-Neither t c = meant_neither c.args.s.now (beside c.args.t.now).names c.args.u c.args.a c.args.b c.in-Some.ensures c.single.ensures c.in-Neither.is
