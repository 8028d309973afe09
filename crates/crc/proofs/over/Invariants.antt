-- `crc::over` meets its contract. The loop's invariant: the register at a byte, taken over the bytes that are left, ends where the whole does.
-- Assumes nothing.
use mathlib.Core.Path.{◌≡◌}
use lib.ListN.{drop}
use Rattle.crc_law.specs.Crc.{ones, register}
use Rattle.crc.proofs.over.Given as goal

abbrev pub invariant-loop-i : goal.invariant-loop-i
invariant-loop-i l = register l.r (drop l.i l.s) ≡ register ones l.s
