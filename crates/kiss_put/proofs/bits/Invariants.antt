-- `kiss_put::bits` meets its contract. The loop's invariant: so many bits are put as the loop has counted.
-- Assumes nothing.
use Prim.Native.Nat.{◌/◌, ◌^◌}
use mathlib.Core.Path.{◌≡◌}
use Rattle.kiss_law.specs.Text.{bits}
use Rattle.kiss_put.specs.Put.{Put}
use Rattle.kiss_put.proofs.bits.Given as goal

abbrev pub invariant-loop : goal.invariant-loop
invariant-loop l = (l.rest ≡ l.word / 2 ^ l.counter) × Put l.initial.text l.at (bits l.counter l.word) l.end l.text
