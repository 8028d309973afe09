use Rattle.std.proofs.Common.{◌+◌, ◌*◌}
use Rattle.value.proofs.+operand_row_value.Given as goal

abbrev pub decreases-operand : goal.decreases-operand
decreases-operand l = 3 * l.left + 1

abbrev pub decreases-row : goal.decreases-row
decreases-row l = 3 * l.left + 2

abbrev pub decreases-value : goal.decreases-value
decreases-value l = 3 * l.left
