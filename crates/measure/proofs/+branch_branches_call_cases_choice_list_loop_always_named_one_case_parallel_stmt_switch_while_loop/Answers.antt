-- The readers that count meet their contracts: one law at each way on. 512 for each procedure that can be called and 8 for each level left fall with each statement inside another; the text left falls with each statement of a list.
-- Assumes nothing.
use mathlib.Core.Bool.{not}
use mathlib.Core.Path.{refl, sym, ◌∙◌, ap}
use Rattle.tiers.specs.Choose.{around_number}
use Rattle.tiers.proofs.Coded.{around_row, some_row, no_row}
use Rattle.measure.proofs.Laws.{one-row, one_bare, one_none, one_other, row_bare, loop-came, while-came, if_came, else_came, switch-came, parallel-came}
use Rattle.measure.proofs.Calling.{call_stays, call_full, call-body}
use Rattle.measure.proofs.Lists.{list-start, list-ends, list_spare, list_on, case-came, cases_start, cases_end, cases_on, branch_came, branches_start, branches_end, branches_on}
use Rattle.measure.proofs.+branch_branches_call_cases_choice_list_loop_always_named_one_case_parallel_stmt_switch_while_loop.Goals as goal

pub branch-returns : goal.branch-returns
branch-returns t c = branch_came c.with_acts.ensures c.list-a.ensures c.summed.ensures c.made.ensures

pub branches-loop-at-init : goal.branches-loop-at-init
branches-loop-at-init t c = branches_start c.requires.near c.made-at.ensures

pub branches-loop-at-preserved : goal.branches-loop-at-preserved
branches-loop-at-preserved t c = branches_on c.loop-at-test.true c.word_from-v.ensures (rw c.loop-at.invariant.on.kept at c.branch-at.ensures) c.loop-at.invariant

pub branches-returns : goal.branches-returns
branches-returns t c = branches_end c.made-at.ensures c.loop-at-test.false c.loop-at.invariant

pub call-returns-in_default : goal.call-returns-in_default
call-returns-in_default t c = call_stays c.requires.0 c.requires.1 c.requires.2 c.enter-e.ensures c.in_default.is c.begun.ensures c.made-in_default.ensures

pub call-returns : goal.call-returns
call-returns t c = call-body c.requires.0 c.requires.1 c.requires.2 c.enter-e.ensures c.in-Some.is c.list-a.ensures c.clear.ensures c.made-2.ensures

pub call-returns-then-none_left : goal.call-returns-then-none_left
call-returns-then-none_left t c = call_full c.requires.0 c.requires.1 c.requires.2 c.none_left.ensures c.if-none_left.true c.hand_over-h.ensures c.word_from.ensures c.full.ensures c.made.ensures

pub cases-loop-at-init : goal.cases-loop-at-init
cases-loop-at-init t c = cases_start c.requires.near c.made-at.ensures

pub cases-loop-at-preserved : goal.cases-loop-at-preserved
cases-loop-at-preserved t c = cases_on c.loop-at-test.true (rw c.loop-at.invariant.on.kept at c.one_case-at.ensures) c.loop-at.invariant

pub cases-returns : goal.cases-returns
cases-returns t c = cases_end c.made-at.ensures c.loop-at-test.false c.loop-at.invariant

pub choice-returns : goal.choice-returns
choice-returns t c = else_came c.requires.1.near c.deeper-inner.ensures c.begun.ensures c.deep-k.ensures c.word_from-second.ensures c.test-g.ensures c.list-a.ensures c.word_from-next.ensures c.if-a-ne-ELSE.false (rw c.list-a.ensures.on.kept at c.list-b.ensures) c.word_from.ensures c.made-2.ensures

pub choice-returns-then-a-ne-ELSE : goal.choice-returns-then-a-ne-ELSE
choice-returns-then-a-ne-ELSE t c = if_came c.requires.1.near c.deeper-inner.ensures c.begun.ensures c.deep-k.ensures c.word_from-second.ensures c.test-g.ensures c.list-a.ensures c.word_from-next.ensures c.if-a-ne-ELSE.true c.made.ensures

pub list-loop-at-init : goal.list-loop-at-init
list-loop-at-init t c = list-start (rw (← c.stmt-at.ensures.on.kept) at c.stmt-at.ensures)

pub list-loop-at-preserved : goal.list-loop-at-preserved
list-loop-at-preserved t c = list_on c.loop-at-test.true c.word_from-v.ensures (λ e. some_row c.statement_row.result (ap not (c.is_none.ensures ∙ ap not c.if-is_none.false)) (c.statement_row.ensures ∙ e)) (rw c.loop-at.invariant.on.kept at c.stmt-at-in-loop-at.ensures) c.loop-at.invariant

pub list-returns : goal.list-returns
list-returns t c = list-ends c.stmt-at.ensures (rw c.stmt-at.ensures.on.kept at c.loop-at.invariant) c.loop-at-test.false

pub list-returns-then-is_none : goal.list-returns-then-is_none
list-returns-then-is_none t c = list_spare c.stmt-at.ensures (rw c.stmt-at.ensures.on.kept at c.loop-at.invariant) c.loop-at-test.true c.word_from-v.ensures (sym c.statement_row.ensures ∙ no_row c.statement_row.result (ap not (c.is_none.ensures ∙ ap not c.if-is_none.true))) c.made.ensures

pub loop_always-returns : goal.loop_always-returns
loop_always-returns t c = loop-came c.requires.1.near c.deeper-inner.ensures c.begun.ensures c.deep-k.ensures c.word_from-second.ensures c.list-a.ensures c.word_from.ensures c.made.ensures

pub named-returns : goal.named-returns
named-returns t c = row_bare c.assign.ensures

pub named-returns-then-after-eq-OPEN : goal.named-returns-then-after-eq-OPEN
named-returns-then-after-eq-OPEN t c = c.call.ensures _ c.requires.few

pub one_case-returns : goal.one_case-returns
one_case-returns t c = case-came c.requires.near c.word_from-second.ensures c.test-g.ensures c.list.ensures

pub parallel-returns : goal.parallel-returns
parallel-returns t c = parallel-came c.requires.1.near c.deeper-inner.ensures c.begun.ensures c.deep-k.ensures c.word_from-second.ensures c.with_acts-o.ensures c.branch-a.ensures c.word_from-other.ensures (rw c.branch-a.ensures.on.kept at c.branch-b.ensures) (rw (c.branch-b.ensures.on.kept ∙ c.branch-a.ensures.on.kept) at c.branches-c.ensures) c.word_from.ensures c.together.ensures c.made.ensures

pub stmt-plain-requires : goal.stmt-plain-requires
stmt-plain-requires t c = c.requires.near

pub stmt-returns-in-If : goal.stmt-returns-in-If
stmt-returns-in-If t c = one-row (rw c.in-Some-Around.field-0-is at c.in-Some-Around.ensures) (ap around_number c.in-If.is) c.choice.ensures

pub stmt-returns-in-Loop : goal.stmt-returns-in-Loop
stmt-returns-in-Loop t c = one-row (rw c.in-Some-Around.field-0-is at c.in-Some-Around.ensures) (ap around_number c.in-Loop.is) c.loop_always.ensures

pub stmt-returns-in-None : goal.stmt-returns-in-None
stmt-returns-in-None t c = one_other c.in-None.ensures refl c.requires.near c.made.ensures

pub stmt-returns-in-Parallel : goal.stmt-returns-in-Parallel
stmt-returns-in-Parallel t c = one-row (rw c.in-Some-Around.field-0-is at c.in-Some-Around.ensures) (ap around_number c.in-Parallel.is) c.parallel.ensures

pub stmt-returns-in-Some-Name : goal.stmt-returns-in-Some-Name
stmt-returns-in-Some-Name t c = one-row (rw c.in-Some-Name.field-0-is at c.in-Some-Name.ensures) refl c.named.ensures

pub stmt-returns-in-Some-Plain : goal.stmt-returns-in-Some-Plain
stmt-returns-in-Some-Plain t c = one_bare (rw c.in-Some-Plain.field-0-is at c.in-Some-Plain.ensures) (c.plain.ensures _ _ _)

pub stmt-returns-in-Switch : goal.stmt-returns-in-Switch
stmt-returns-in-Switch t c = one-row (rw c.in-Some-Around.field-0-is at c.in-Some-Around.ensures) (ap around_number c.in-Switch.is) c.switch.ensures

pub stmt-returns-in-While : goal.stmt-returns-in-While
stmt-returns-in-While t c = one-row (rw c.in-Some-Around.field-0-is at c.in-Some-Around.ensures) (ap around_number c.in-While.is) c.while_loop.ensures

pub stmt-returns-then-levels-eq0 : goal.stmt-returns-then-levels-eq0
stmt-returns-then-levels-eq0 t c = one_none (rw c.in-Some-Around.field-0-is at c.in-Some-Around.ensures) c.requires.near (around_row c.in-Some-Around.row).0 (around_row c.in-Some-Around.row).1 c.if-levels-eq0.true c.made-then-levels-eq0.ensures

pub switch-returns : goal.switch-returns
switch-returns t c = switch-came c.requires.1.near c.deeper-inner.ensures c.begun.ensures c.deep-k.ensures c.word_from-second.ensures c.one_case-a.ensures (rw c.one_case-a.ensures.on.kept at c.cases-c.ensures) c.word_from-colon.ensures c.word_from-last.ensures (rw (c.cases-c.ensures.on.kept ∙ c.one_case-a.ensures.on.kept) at c.list-z.ensures) c.word_from.ensures c.made.ensures

pub while_loop-returns : goal.while_loop-returns
while_loop-returns t c = while-came c.requires.1.near c.deeper-inner.ensures c.begun.ensures c.deep-k.ensures c.word_from-second.ensures c.test-g.ensures c.word_from-body.ensures c.list-a.ensures c.word_from.ensures c.made.ensures
