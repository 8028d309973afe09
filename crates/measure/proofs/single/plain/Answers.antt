-- `measure::single::plain` meets its contract.
-- Assumes nothing.
use mathlib.Core.Path.{ap}
use Rattle.tiers.specs.Choose.{plain_number}
use Rattle.tiers.proofs.Coded.{plain_row}
use Rattle.measure.proofs.Laws.{bare_delay, bare_one, bare_change, change_rows, word_rows}
use Rattle.measure.proofs.single.plain.Goals as goal

pub returns-in-Delay : goal.returns-in-Delay
returns-in-Delay c = λ z u k. bare_delay c.requires c.word_from-second.ensures (ap plain_number c.in-Delay.is) c.word_from.ensures (rw c.begun-k.ensures at c.marked.ensures) c.made-in-Delay.ensures

pub returns-in-Skip : goal.returns-in-Skip
returns-in-Skip c = λ z u k. let (delays, high) = word_rows c.args.row c.in-Skip.is in bare_one c.requires c.word_from-second.ensures (plain_row c.args.row) delays high c.begun-k.ensures c.made.ensures

pub returns-in-Raise : goal.returns-in-Raise
returns-in-Raise c = λ z u k. let (low, high) = change_rows c.args.row c.in-Raise.is in bare_change c.requires c.word_from-second.ensures low high c.deeper-inner.ensures c.changed.ensures (rw c.begun-k.ensures at c.deep.ensures) c.made-in-Raise.ensures
