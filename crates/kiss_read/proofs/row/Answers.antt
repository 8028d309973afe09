-- `kiss_read::row` meets its contract: three fields in turn, and the line's end.
-- Assumes nothing.
use native.Mathlib.Omega.{arith}
use Prim.Native.Nat.{◌^◌, ◌≤◌}
use lib.Pow.{pow_mono}
use Rattle.std.proofs.lemmas.Result.{err_from_is_err_and}
use Rattle.kiss_read.proofs.Turns.{head_lost, next_lost, outs_lost, row_ends}
use Rattle.kiss_read.proofs.row.Goals as goal

pub returns-in_err-head : goal.returns-in_err-head
returns-in_err-head c =
    let a = c.args in
    let p = err_from_is_err_and c.from_residual.result c.from_residual.ensures.1 in
    rw p.1 (λ w v rest hw hv q. head_lost a.text.now a.z.inputs a.z.outputs a.z.states a.state a.input a.at a.z.fit w v rest hw hv q c.in_err-head.ensures)

pub returns-in_err-next : goal.returns-in_err-next
returns-in_err-next c =
    let a = c.args in
    let p = err_from_is_err_and c.from_residual-in_err-next.result c.from_residual-in_err-next.ensures.1 in
    rw p.1 (λ w v rest hw hv q. next_lost a.text.now a.z.inputs a.z.outputs a.z.states a.state a.input a.at a.z.fit w v rest hw hv q c.in_ok-head.ensures c.in_err-next.ensures)

pub returns-in_err-outs : goal.returns-in_err-outs
returns-in_err-outs c =
    let a = c.args in
    let p = err_from_is_err_and c.from_residual-in_err-outs.result c.from_residual-in_err-outs.ensures.1 in
    rw p.1 (λ w v rest hw hv q. outs_lost a.text.now a.z.inputs a.z.outputs a.z.states a.state a.input a.at a.z.fit w v rest hw hv q c.in_ok-head.ensures c.in_ok-next.ensures c.in_err-outs.ensures)

pub returns-then-text-outs : goal.returns-then-text-outs
returns-then-text-outs c =
    let a = c.args in
    λ w v rest hw hv q.
    let e = row_ends a.text.now a.z.inputs a.z.outputs a.z.states a.state a.input a.at a.z.fit w v rest hw hv q c.in_ok-head.ensures c.in_ok-next.ensures c.in_ok-outs.ensures in
    omega (arith, e.3, c.if-text-outs.true)

pub returns : goal.returns
returns c =
    let a = c.args in
    let b : 2 ^ a.z.outputs ≤ 65536 = pow_mono {j = 16} c.args.z.fit.most_outputs in
    record {
      inside = omega (arith, c.if-text-outs.false);
      next = omega (arith, c.in_ok-next.ensures.one, c.args.z.fit.most_states);
      outs = omega (arith, c.in_ok-outs.ensures.one);
      is = λ w v rest hw hv q.
          let e = row_ends a.text.now a.z.inputs a.z.outputs a.z.states a.state a.input a.at a.z.fit w v rest hw hv q c.in_ok-head.ensures c.in_ok-next.ensures c.in_ok-outs.ensures in
          (e.0, e.1, e.2);
    }
