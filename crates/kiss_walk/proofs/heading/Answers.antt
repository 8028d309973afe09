-- `kiss_walk::heading` meets its contract: five lines in turn.
-- Assumes nothing.
use mathlib.Core.Path.{subst}
use Prim.Native.Nat.{ℕ, ◌+◌, ◌*◌}
use Rattle.std.proofs.lemmas.Result.{err_from_is_err_and}
use Rattle.kiss_walk.proofs.Walks.{moves, stops, at-first, at-rows, headed_is, sizes_of_lem}
use Rattle.kiss_law.specs.Text.{size_line}
use Rattle.kiss_fields.specs.Took.{Stood}
use Rattle.kiss_walk.proofs.heading.Goals as goal

pub returns-in_err-ins : goal.returns-in_err-ins
returns-in_err-ins c =
    let p = err_from_is_err_and c.from_residual.result c.from_residual.ensures.1 in
    rw (p.1, p.2) (stops (at-first c.args.text.now) c.in_err-ins.ensures)

pub returns-in_err-outs : goal.returns-in_err-outs
returns-in_err-outs c =
    let a = moves (at-first c.args.text.now) c.in_ok-ins.ensures in
    let p = err_from_is_err_and c.from_residual-in_err-outs.result c.from_residual-in_err-outs.ensures.1 in
    rw (p.1, p.2) (stops a c.in_err-outs.ensures)

pub returns-in_err-rows : goal.returns-in_err-rows
returns-in_err-rows c =
    let a = moves (moves (at-first c.args.text.now) c.in_ok-ins.ensures) c.in_ok-outs.ensures in
    let b = at-rows c.args.text.now c.in_ok-ins.ins.value c.in_ok-outs.outs.value c.pow2.result c.in_ok-outs.outs.end c.pow2.ensures.0 a in
    let p = err_from_is_err_and c.from_residual-in_err-rows.result c.from_residual-in_err-rows.ensures.1 in
    rw (p.1, p.2) (stops b c.in_err-rows.ensures)

pub returns-in_err-all : goal.returns-in_err-all
returns-in_err-all c =
    let a = moves (moves (at-first c.args.text.now) c.in_ok-ins.ensures) c.in_ok-outs.ensures in
    let b = at-rows c.args.text.now c.in_ok-ins.ins.value c.in_ok-outs.outs.value c.pow2.result c.in_ok-outs.outs.end c.pow2.ensures.0 a in
    let p = err_from_is_err_and c.from_residual-in_err-all.result c.from_residual-in_err-all.ensures.1 in
    rw (p.1, p.2) (stops (moves b c.in_ok-rows.ensures) c.in_err-all.ensures)

pub returns-in_err-start : goal.returns-in_err-start
returns-in_err-start c =
    let a = moves (moves (at-first c.args.text.now) c.in_ok-ins.ensures) c.in_ok-outs.ensures in
    let b = at-rows c.args.text.now c.in_ok-ins.ins.value c.in_ok-outs.outs.value c.pow2.result c.in_ok-outs.outs.end c.pow2.ensures.0 a in
    let p = err_from_is_err_and c.from_residual-in_err-start.result c.from_residual-in_err-start.ensures.1 in
    rw (p.1, p.2) (stops (moves (moves b c.in_ok-rows.ensures) c.in_ok-all.ensures) c.in_err-start.ensures)

pub returns : goal.returns
returns c =
    let x = c.args.text.now in
    let i = c.in_ok-ins.ins in
    let o = c.in_ok-outs.outs in
    let r = c.in_ok-rows.rows in
    let d = c.in_ok-all.all in
    let s = c.in_ok-start.start in
    let a = moves (moves (at-first x) c.in_ok-ins.ensures) c.in_ok-outs.ensures in
    let b = at-rows x i.value o.value c.pow2.result o.end c.pow2.ensures.0 a in
    let e = moves (moves (moves b c.in_ok-rows.ensures) c.in_ok-all.ensures) c.in_ok-start.ensures in
    let q = subst (λ (u : ℕ). Stood 256 (λ (a : ℕ). size_line 112 ((a + 1) * u)) x o.end r.value r.end) c.pow2.ensures.0 c.in_ok-rows.ensures in
    record {
      sizes = sizes_of_lem i.value o.value r.value c.in_ok-ins.ensures.one c.in_ok-outs.ensures.one c.in_ok-rows.ensures.one;
      stands = e.stands;
      is = headed_is x i.value o.value r.value d.value s.value i.end o.end r.end d.end s.end c.in_ok-ins.ensures c.in_ok-outs.ensures q c.in_ok-all.ensures c.in_ok-start.ensures;
    }
