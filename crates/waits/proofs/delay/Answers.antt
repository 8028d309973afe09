use Rattle.std.proofs.Common.{rules}
use Rattle.waits.proofs.Laws.{delay-none, delay-one, delay-some}
use Rattle.waits.proofs.delay.Goals as goal

pub returns-in-0 : goal.returns-in-0
returns-in-0 c = λ p. delay-none _ (record { place = p; number = c.args.i }) c.args.b c.args.o.now c.requires.0 c.in-0.is

pub returns-in-1 : goal.returns-in-1
returns-in-1 c = λ p. delay-one _ (record { place = p; number = c.args.i }) c.in-1.is (c.tried.ensures c.args.b)

pub returns-in_default : goal.returns-in_default
returns-in_default c = λ p. rw c.put.ensures (delay-some _ (record { place = p; number = c.args.i }) (search rules) (search rules) (c.tried-in_default.ensures c.args.b))
