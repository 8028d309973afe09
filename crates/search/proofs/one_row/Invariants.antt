use mathlib.Core.Path.{◌≡◌}
use lib.ListN.{length}
use Rattle.clock.specs.Step.{state_from}
use Rattle.search.specs.Machine.{machine_in}
use Rattle.search.specs.Going.{InRow}
use Rattle.search.specs.Masks.{Masks}
use Rattle.search.proofs.one_row.Given as goal

abbrev pub invariant-loop-x : goal.invariant-loop-x
invariant-loop-x l = InRow (machine_in l.tree l.task) l.task.room l.area l.m l.i l.x l.s × (length l.area ≡ length l.initial.area) × (length l.masks ≡ 64)
    × Masks (machine_in l.tree l.task) (state_from l.s) l.masks l.x
