-- `kiss_fields::agree` meets its contract. The loop's invariant: the first i bytes are the same.
-- Assumes nothing.
use mathlib.Core.Path.{◌≡◌}
use lib.ListN.{take, drop}
use Rattle.kiss_fields.proofs.agree.Given as goal

abbrev pub invariant-loop-i : goal.invariant-loop-i
invariant-loop-i l = take l.i (drop l.at l.text) ≡ take l.i l.word
