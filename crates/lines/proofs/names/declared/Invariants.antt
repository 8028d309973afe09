use Rattle.std.proofs.Common.{length, ◌-◌}
use Rattle.lines.proofs.names.declared.Given as goal

abbrev pub decreases-loop-w : goal.decreases-loop-w
decreases-loop-w g l = length l.source - l.at
