use Rattle.resume.proofs.+branches_cases_list_one.Given as goal

abbrev pub decreases-branches : goal.decreases-branches
decreases-branches l = l.left

abbrev pub decreases-cases : goal.decreases-cases
decreases-cases l = l.left

abbrev pub decreases-list : goal.decreases-list
decreases-list l = l.left

abbrev pub decreases-one : goal.decreases-one
decreases-one l = l.left
