use Rattle.std.proofs.Common.{◌^◌, ◌<◌}
use Rattle.runner.proofs.number.parse.Given as goal

abbrev pub invariant-loop-b : goal.invariant-loop-b
invariant-loop-b l = l.value < 2 ^ 32
