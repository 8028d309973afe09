use mathlib.Core.Path.{refl, ◌∙◌}
use Rattle.search.proofs.Turns.{known-done, over_done, new-done}
use Rattle.search.proofs.Holds.{step-holds, step-unseen}
use Rattle.search.proofs.clocked.Goals as goal

pub returns-in-Ok : goal.returns-in-Ok
returns-in-Ok c = let a = c.args in
    let p = c.requires in
    let S = c.step-c in
    let h = step-holds a.tree.now a.task S.ensures in
    let k = c.in-Ok.ensures in
    (known-done p.1 S.result.state p.2 h.holds c.in-Ok.j k.0 k.1 c.put.ensures, step-unseen a.tree.now a.task S.ensures, c.put.ensures.low.long)

pub returns-then-n-task : goal.returns-then-n-task
returns-then-n-task c = let a = c.args in
    let p = c.requires in
    let S = c.step-c in
    let h = step-holds a.tree.now a.task S.ensures in
    let q = c.put-then-n-task.ensures in
    (new-done p.1 S.result.state p.2 h.holds h.canon c.in-Err.ensures c.add.ensures q c.if-n-task.true, step-unseen a.tree.now a.task S.ensures, q.low.long ∙ c.add.ensures.long)

pub returns-else-n-task : goal.returns-else-n-task
returns-else-n-task c = let p = c.requires in
    let h = step-holds c.args.tree.now c.args.task c.step-c.ensures in
    (over_done p.1 c.step-c.result.state p.2 h.holds h.canon c.in-Err.ensures c.if-n-task.false, refl)
