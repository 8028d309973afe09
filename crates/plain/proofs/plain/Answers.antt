-- `plain::plain` meets its contract.
-- Assumes nothing.
use mathlib.Core.Path.{ap}
use Rattle.tiers.specs.Choose.{plain_number}
use Rattle.plain.proofs.Laws.{plain_skip, plain_exit, plain_break, plain_delay}
use Rattle.plain.proofs.plain.Goals as goal

pub returns-in-Skip : goal.returns-in-Skip
returns-in-Skip c =
    plain_skip c.requires.near c.told-p.ensures c.begun-m.ensures c.word_from-second.ensures (ap plain_number c.in-Skip.is) c.finish.ensures

pub returns-in-Exit : goal.returns-in-Exit
returns-in-Exit c =
    plain_exit c.requires.near c.told-p.ensures c.begun-m.ensures c.word_from-second.ensures (ap plain_number c.in-Exit.is) c.leaves-k.ensures c.finish-in-Exit.ensures

pub returns-in-Break : goal.returns-in-Break
returns-in-Break c =
    plain_break c.requires.near c.told-p.ensures c.begun-m.ensures c.word_from-second.ensures (ap plain_number c.in-Break.is) c.leaves-k-in-Break.ensures c.finish-in-Break.ensures

pub returns-in-Delay : goal.returns-in-Delay
returns-in-Delay c =
    plain_delay c.requires.near c.told-p.ensures c.begun-m.ensures c.word_from-second.ensures (ap plain_number c.in-Delay.is) c.word_from-after.ensures c.told-q.ensures c.delayed-k.ensures c.finish-in-Delay.ensures

pub returns-in-Raise : goal.returns-in-Raise
returns-in-Raise c = rw c.in-Raise.is (c.change.ensures _ _)

pub returns-in-Lower : goal.returns-in-Lower
returns-in-Lower c = rw c.in-Lower.is (c.change-in-Lower.ensures _ _)

pub returns-in-Invert : goal.returns-in-Invert
returns-in-Invert c = rw c.in-Invert.is (c.change-in-Invert.ensures _ _)
