use Rattle.std.proofs.Common.{◌+◌, ◌*◌}
use Rattle.sums.proofs.+added_operand.Given as goal

abbrev pub decreases-added : goal.decreases-added
decreases-added l = 2 * l.left

abbrev pub decreases-operand : goal.decreases-operand
decreases-operand l = 2 * l.left + 1
