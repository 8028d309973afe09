use Prim.Native.Nat.{◌+◌, ◌*◌}
use Rattle.start.proofs.+branches_cases_choice_list_one.Given as goal

abbrev pub decreases-branches : goal.decreases-branches
decreases-branches l = 2 * l.left

abbrev pub decreases-cases : goal.decreases-cases
decreases-cases l = 2 * l.left

abbrev pub decreases-choice : goal.decreases-choice
decreases-choice l = 2 * l.left

abbrev pub decreases-list : goal.decreases-list
decreases-list l = 2 * l.left

abbrev pub decreases-one : goal.decreases-one
decreases-one l = 2 * l.left + 1
