use native.Mathlib.Omega.{arith}
use mathlib.Core.Path.{sym, ◌∙◌}
use Rattle.rows.proofs.Rows.{row_is, word_differs, place_differs, left_differs}
use Rattle.rows.proofs.row.same.Goals as goal
use Rattle.rows.proofs.row.same.Goals.{then-half_at-x-via-then-half_at-x, then-half_at-x-via-else-half_at-x+then-area-at}

pub returns-then-full_at-s : goal.returns-then-full_at-s
returns-then-full_at-s c = word_differs c.args.area.now c.args.i c.args.s (λ e. c.if-full_at-s.true (c.full_at.ensures ∙ e))

pub returns-then-half_at-x : goal.returns-then-half_at-x
returns-then-half_at-x c = let a = c.args in
    elim c.then-half_at-x.branch [
      | then-half_at-x-via-then-half_at-x w ↦ place_differs a.area.now a.i a.s c.loop-e.e (omega arith) (λ e. w.if-half_at-x.true (c.half_at.ensures ∙ e))
      | then-half_at-x-via-else-half_at-x+then-area-at w ↦ left_differs a.area.now a.i a.s c.loop-e.e (omega arith) w.if-area-at.true
    ]

pub returns : goal.returns
returns c = row_is c.args.area.now c.args.i c.args.s _ (omega arith) c.requires.1 c.loop-e.invariant (sym c.full_at.ensures ∙ c.if-full_at-s.false)
