use Rattle.std.proofs.Common.{refl, rules, arith}
use Rattle.clock.proofs.Laws.{blank_open, clocks}
use Rattle.clock.proofs.step.Goals as goal

pub list-h-requires : goal.list-h-requires
list-h-requires c = let h = c.requires.0 in (h.good, (omega (arith, h.fuel), record { leaves = h.leaves; room = omega arith; wide = h.wide; kept = search rules; free = blank_open; is_least = c.least_at-m.ensures }))

pub returns : goal.returns
returns c = let a = c.args in clocks a.t.now a.n a.left a.s a.input c.requires.0 c.requires.1 c.list-h.ensures c.settled.ensures refl
