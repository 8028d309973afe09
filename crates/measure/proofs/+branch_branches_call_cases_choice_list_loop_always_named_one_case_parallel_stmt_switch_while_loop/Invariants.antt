-- The readers that count meet their contracts: one law at each way on. 512 for each procedure that can be called and 8 for each level left fall with each statement inside another; the text left falls with each statement of a list.
-- Assumes nothing.
use Prim.Native.Nat.{◌-◌, ◌*◌, ◌+◌}
use lib.ListN.{length}
use Rattle.parts.specs.Beside.{beside}
use Rattle.measure.proofs.Lists.{Going, CasesGoing, BranchesGoing}
use Rattle.measure.proofs.+branch_branches_call_cases_choice_list_loop_always_named_one_case_parallel_stmt_switch_while_loop.Given as goal

abbrev pub decreases-branch : goal.decreases-branch
decreases-branch l = l.u.seen * 512 + l.levels * 8 + 4

abbrev pub decreases-branches : goal.decreases-branches
decreases-branches l = l.u.seen * 512 + l.levels * 8 + 5

abbrev pub decreases-call : goal.decreases-call
decreases-call l = l.u.seen * 512

abbrev pub decreases-cases : goal.decreases-cases
decreases-cases l = l.u.seen * 512 + l.levels * 8 + 5

abbrev pub decreases-choice : goal.decreases-choice
decreases-choice l = l.u.seen * 512 + l.levels * 8

abbrev pub decreases-list : goal.decreases-list
decreases-list l = l.u.seen * 512 + l.levels * 8 + 3

abbrev pub decreases-loop_always : goal.decreases-loop_always
decreases-loop_always l = l.u.seen * 512 + l.levels * 8

abbrev pub decreases-named : goal.decreases-named
decreases-named l = l.u.seen * 512 + l.levels * 8 + 1

abbrev pub decreases-one_case : goal.decreases-one_case
decreases-one_case l = l.u.seen * 512 + l.levels * 8 + 4

abbrev pub decreases-parallel : goal.decreases-parallel
decreases-parallel l = l.u.seen * 512 + l.levels * 8

abbrev pub decreases-stmt : goal.decreases-stmt
decreases-stmt l = l.u.seen * 512 + l.levels * 8 + 2

abbrev pub decreases-switch : goal.decreases-switch
decreases-switch l = l.u.seen * 512 + l.levels * 8

abbrev pub decreases-while_loop : goal.decreases-while_loop
decreases-while_loop l = l.u.seen * 512 + l.levels * 8

abbrev pub invariant-branches-loop-at : goal.invariant-branches-loop-at
invariant-branches-loop-at l = BranchesGoing l.s (beside l.initial.t).names l.u l.levels l.around l.initial.at l.initial.t l.at l.t

abbrev pub decreases-branches-loop-at : goal.decreases-branches-loop-at
decreases-branches-loop-at l = length l.s - l.at.word.place

abbrev pub invariant-cases-loop-at : goal.invariant-cases-loop-at
invariant-cases-loop-at l = CasesGoing l.s (beside l.initial.t).names l.u l.levels l.around l.initial.at l.initial.t l.at l.t

abbrev pub decreases-cases-loop-at : goal.decreases-cases-loop-at
decreases-cases-loop-at l = length l.s - l.at.word.place

abbrev pub invariant-list-loop-at : goal.invariant-list-loop-at
invariant-list-loop-at l = Going l.s (beside l.initial.t).names l.u l.levels l.around l.initial.at l.initial.t l.at l.t

abbrev pub decreases-list-loop-at : goal.decreases-list-loop-at
decreases-list-loop-at l = length l.s - l.at.word.place
