-- The readers of statements, lists, cases, branches and calls meet their contracts: one law at each way on. The procedures that can be called fall with each call, the levels left with each statement inside another.
-- Assumes nothing.
use mathlib.Core.Bool.{not}
use mathlib.Core.Path.{refl, sym, ap, ◌∙◌}
use native.Mathlib.Omega.{arith}
use Rattle.tiers.specs.Choose.{around_number}
use Rattle.tiers.proofs.Coded.{around_row, some_row, no_row}
use Rattle.stmts.proofs.Laws.{one-row, one_none, one_other, loop-came, switch-came, parallel-came, while-came, if_came, else_came}
use Rattle.stmts.proofs.Lists.{list-start, list-ends, list_spare, list_on, case-came, cases_start, cases_end, cases_on, branch_came, branches_start, branches_end, branches_on}
use Rattle.stmts.proofs.Calls.{call-named, outermost-named, call-refused, call-expanded, still-listed, wrote_frame, outermost_over, outermost-flat, outermost-deep}
use Rattle.stmts.proofs.+branch_branches_call_cases_choice_list_loop_always_named_one_case_outermost_parallel_stmt_switch_while_loop.Goals as goal

pub branch-returns : goal.branch-returns
branch-returns t c =
    branch_came c.with_acts-m.ensures c.list-a.ensures c.branched.ensures

pub branches-loop-at-init : goal.branches-loop-at-init
branches-loop-at-init t c =
    branches_start (rw c.made-at.ensures.0 c.requires.near)

pub branches-returns-then-at-ne-BARS : goal.branches-returns-then-at-ne-BARS
branches-returns-then-at-ne-BARS t c =
    branches_end c.made-at.ensures.0 c.made-at.ensures.1 c.if-at-ne-BARS.true c.loop-at.invariant

pub branches-loop-at-preserved : goal.branches-loop-at-preserved
branches-loop-at-preserved t c =
    branches_on c.if-at-ne-BARS.false c.word_from-v.ensures (rw c.loop-at.invariant.on.kept at c.branch-at.ensures) c.loop-at.invariant

pub call-list-r-requires : goal.call-list-r-requires
call-list-r-requires t c =
    (omega (arith, c.decreases, (wrote_frame c.enter-e.ensures c.in-Some.is).3), record { near = (wrote_frame c.enter-e.ensures c.in-Some.is).1; listed = still-listed c.enter-e.ensures c.requires.listed; few = omega arith })

pub call-returns : goal.call-returns
call-returns t c =
    call-expanded c.requires.near c.requires.listed c.enter-e.ensures c.in-Some.is c.list-r.ensures c.clear.ensures c.made.ensures.0 c.made.ensures.1

pub call-returns-in_default : goal.call-returns-in_default
call-returns-in_default t c =
    call-refused c.requires.near c.enter-e.ensures c.in_default.is c.refused.ensures

pub cases-loop-at-init : goal.cases-loop-at-init
cases-loop-at-init t c =
    cases_start (rw c.made-at.ensures.0 c.requires.near)

pub cases-returns-then-at-ne-CASE : goal.cases-returns-then-at-ne-CASE
cases-returns-then-at-ne-CASE t c =
    cases_end c.made-at.ensures.0 c.made-at.ensures.1 c.if-at-ne-CASE.true c.loop-at.invariant

pub cases-loop-at-preserved : goal.cases-loop-at-preserved
cases-loop-at-preserved t c =
    cases_on c.if-at-ne-CASE.false (rw c.loop-at.invariant.on.kept at c.one_case-at.ensures) c.loop-at.invariant

pub choice-returns-then-a-ne-ELSE : goal.choice-returns-then-a-ne-ELSE
choice-returns-then-a-ne-ELSE t c =
    if_came c.requires.1.few c.requires.1.near c.told-p.ensures c.begun-m.ensures c.word_from-second.ensures c.test-g.ensures (rw c.test-g.ensures.on.kept at c.list-a.ensures) c.word_from-next.ensures c.if-a-ne-ELSE.true (rw c.from.ensures at c.finish.ensures)

pub choice-returns : goal.choice-returns
choice-returns t c =
    else_came c.requires.1.few c.requires.1.near c.told-p.ensures c.begun-m.ensures c.word_from-second.ensures c.test-g.ensures (rw c.test-g.ensures.on.kept at c.list-a.ensures) c.word_from-next.ensures c.if-a-ne-ELSE.false (rw (c.list-a.ensures.on.kept ∙ c.test-g.ensures.on.kept) at c.list-b.ensures) c.word_from-end.ensures (rw c.from-2.ensures at c.finish-2.ensures)

pub list-loop-at-init : goal.list-loop-at-init
list-loop-at-init t c =
    list-start (rw (← c.stmt-at.ensures.on.kept) at c.stmt-at.ensures)

pub list-returns-then-at-ne-SEMICOLON : goal.list-returns-then-at-ne-SEMICOLON
list-returns-then-at-ne-SEMICOLON t c =
    list-ends c.stmt-at.ensures (rw c.stmt-at.ensures.on.kept at c.loop-at.invariant) c.if-at-ne-SEMICOLON.true

pub list-returns-then-is_none : goal.list-returns-then-is_none
list-returns-then-is_none t c =
    list_spare c.stmt-at.ensures (rw c.stmt-at.ensures.on.kept at c.loop-at.invariant) c.if-at-ne-SEMICOLON.false c.word_from-v.ensures (sym c.statement_row.ensures ∙ no_row c.statement_row.result (ap not (c.is_none.ensures ∙ ap not c.if-is_none.true))) c.made.ensures.0 c.made.ensures.1

pub list-loop-at-preserved : goal.list-loop-at-preserved
list-loop-at-preserved t c =
    list_on c.if-at-ne-SEMICOLON.false c.word_from-v.ensures (λ e. some_row c.statement_row.result (ap not (c.is_none.ensures ∙ ap not c.if-is_none.false)) (c.statement_row.ensures ∙ e)) (rw c.loop-at.invariant.on.kept at c.stmt-at-in-loop-at.ensures) c.loop-at.invariant

pub loop_always-returns : goal.loop_always-returns
loop_always-returns t c =
    λ l. loop-came c.requires.1.few c.requires.1.near c.told-p.ensures c.begun-m.ensures c.word_from-second.ensures c.list-a.ensures c.word_from-next.ensures c.finish.ensures

pub named-returns-then-second-ne-OPEN : goal.named-returns-then-second-ne-OPEN
named-returns-then-second-ne-OPEN t c =
    c.assign.ensures _ _

pub named-returns-then-u-lt65535 : goal.named-returns-then-u-lt65535
named-returns-then-u-lt65535 t c =
    call-named c.requires.few c.word_from-second.ensures c.if-second-ne-OPEN.false c.if-u-lt65535.true c.call.ensures

pub named-returns : goal.named-returns
named-returns t c =
    outermost-named c.requires.few c.word_from-second.ensures c.if-second-ne-OPEN.false (λ h. omega (arith, h, c.if-u-lt65535.false)) c.outermost.ensures

pub one_case-returns : goal.one_case-returns
one_case-returns t c =
    case-came c.requires.few c.requires.near c.told-p.ensures c.cased-m.ensures c.word_from-second.ensures c.test-g.ensures (rw c.test-g.ensures.on.kept at c.list-a.ensures) (rw c.from.ensures at c.finish.ensures)

pub outermost-returns-then-k : goal.outermost-returns-then-k
outermost-returns-then-k t c =
    outermost_over c.requires.near c.inside-v.ensures c.measure-k.ensures refl c.if-k.true c.passing.ensures

pub outermost-returns-then-k-2 : goal.outermost-returns-then-k-2
outermost-returns-then-k-2 t c =
    outermost-deep c.requires.near c.inside-v.ensures c.measure-k.ensures refl c.if-k.false c.call-r.ensures c.if-k-2.true c.passing-then-k-2.ensures c.made.ensures.0 c.made.ensures.1

pub outermost-returns : goal.outermost-returns
outermost-returns t c =
    outermost-flat c.requires.near c.inside-v.ensures c.measure-k.ensures refl c.if-k.false c.call-r.ensures c.if-k-2.false

pub parallel-returns : goal.parallel-returns
parallel-returns t c =
    λ b. parallel-came c.requires.1.few c.requires.1.near c.told-p.ensures c.begun-m.ensures c.word_from-second.ensures c.with_acts-o.ensures c.branch-a.ensures c.word_from-other.ensures (rw c.branch-a.ensures.on.kept at c.branch-b.ensures) (rw (c.branch-b.ensures.on.kept ∙ c.branch-a.ensures.on.kept) at c.branches-c.ensures) c.word_from-next.ensures c.together-n.ensures c.finish.ensures

pub switch-returns : goal.switch-returns
switch-returns t c =
    λ b. switch-came c.requires.1.few c.requires.1.near c.told-p.ensures c.begun-m.ensures c.word_from-second.ensures c.one_case-a.ensures (rw c.one_case-a.ensures.on.kept at c.cases-c.ensures) c.word_from-colon.ensures c.word_from-last.ensures (rw (c.cases-c.ensures.on.kept ∙ c.one_case-a.ensures.on.kept) at c.list-z.ensures) c.word_from-next.ensures c.finish.ensures

pub while_loop-returns : goal.while_loop-returns
while_loop-returns t c =
    λ l. while-came c.requires.1.few c.requires.1.near c.told-p.ensures c.begun-m.ensures c.word_from-second.ensures c.test-g.ensures c.word_from-body.ensures (rw c.test-g.ensures.on.kept at c.list-a.ensures) c.word_from-next.ensures (rw c.from.ensures at c.finish.ensures)

pub stmt-returns-in-Some-Plain : goal.stmt-returns-in-Some-Plain
stmt-returns-in-Some-Plain t c =
    one-row (rw c.in-Some-Plain.field-0-is at c.in-Some-Plain.ensures) refl c.plain.ensures

pub stmt-returns-in-Some-Name : goal.stmt-returns-in-Some-Name
stmt-returns-in-Some-Name t c =
    one-row (rw c.in-Some-Name.field-0-is at c.in-Some-Name.ensures) refl c.named.ensures

pub stmt-returns-in-None : goal.stmt-returns-in-None
stmt-returns-in-None t c =
    one_other c.in-None.ensures refl c.requires.near c.made.ensures.0

pub stmt-returns-then-levels-eq0 : goal.stmt-returns-then-levels-eq0
stmt-returns-then-levels-eq0 t c =
    one_none (rw c.in-Some-Around.field-0-is at c.in-Some-Around.ensures) c.requires.near (around_row c.in-Some-Around.row).0 (around_row c.in-Some-Around.row).1 c.if-levels-eq0.true c.made-then-levels-eq0.ensures.0

pub stmt-returns-in-If : goal.stmt-returns-in-If
stmt-returns-in-If t c =
    one-row (rw c.in-Some-Around.field-0-is at c.in-Some-Around.ensures) (ap around_number c.in-If.is) (c.choice.ensures)

pub stmt-returns-in-While : goal.stmt-returns-in-While
stmt-returns-in-While t c =
    one-row (rw c.in-Some-Around.field-0-is at c.in-Some-Around.ensures) (ap around_number c.in-While.is) (c.while_loop.ensures _)

pub stmt-returns-in-Loop : goal.stmt-returns-in-Loop
stmt-returns-in-Loop t c =
    one-row (rw c.in-Some-Around.field-0-is at c.in-Some-Around.ensures) (ap around_number c.in-Loop.is) (c.loop_always.ensures _)

pub stmt-returns-in-Switch : goal.stmt-returns-in-Switch
stmt-returns-in-Switch t c =
    one-row (rw c.in-Some-Around.field-0-is at c.in-Some-Around.ensures) (ap around_number c.in-Switch.is) (c.switch.ensures _)

pub stmt-returns-in-Parallel : goal.stmt-returns-in-Parallel
stmt-returns-in-Parallel t c =
    one-row (rw c.in-Some-Around.field-0-is at c.in-Some-Around.ensures) (ap around_number c.in-Parallel.is) (c.parallel.ensures _)
