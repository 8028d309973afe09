-- `frames::list::index` meets its contract.
-- Assumes nothing.
use Rattle.frames.specs.List.{index_from, index_in}
use Rattle.frames.specs.Layout.{formals_from, formals_at}
use Rattle.words.specs.Runs.{part}
use Prim.Native.Nat.{◌-◌}
use mathlib.Core.Path.{◌≡◌}
use Rattle.frames.proofs.list.index.Given as goal

abbrev pub invariant-loop-i : goal.invariant-loop-i
invariant-loop-i l = index_from l.s (formals_from (8192 - l.i) l.s l.from) (part l.s l.a l.b) l.i ≡ index_in l.s (formals_at l.s l.p) (part l.s l.a l.b)
