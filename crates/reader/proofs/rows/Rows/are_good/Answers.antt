-- `reader::rows::Rows::are_good` meets its contract: a test at a time, over as many blocks as the sizes call for.
-- Assumes nothing.
use mathlib.Core.Path.{◌≡◌, refl, sym, ap₂, ◌∙◌}
use Prim.Native.Nat.{ℕ, ◌-◌, ◌*◌}
use mathlib.Core.Bool.{Bool, true≢false}
use mathlib.Core.List.{List}
use borrow.Author.Tests.{eq-eqb}
use Rattle.file_law.specs.Answer.{every}
use Rattle.file_law.specs.Reading.{stream_in, stream_length, blocks_for, zero_at, rows_good}
use Rattle.reader.proofs.rows.Rows.are_good.Goals as goal
use Rattle.reader.proofs.rows.Rows.are_good.Goals.{then-all_clear, else-all_clear}

-- the filling that was tested is that of the sizes
filling : (k n : ℕ) (f : List ℕ) {from total : ℕ} {r : Bool} → from ≡ stream_length k n → total ≡ blocks_for k n → r ≡ every (zero_at (stream_in f)) (504 * total - from) from
    → every (zero_at (stream_in f)) (504 * blocks_for k n - stream_length k n) (stream_length k n) ≡ r
filling k n f e d h = sym (h ∙ ap₂ (λ (t j : ℕ). every (zero_at (stream_in f)) (504 * t - j) j) d e)

pub returns-then-all_zero : goal.returns-then-all_zero
unfolding rows_good
returns-then-all_zero c =
    let a = c.args in
    c.all_nexts_good.ensures
    ∙ elim c.if-all_clear.branch [
      | then-all_clear w ↦ simp (eq-eqb (blocks_for a.self.size.inputs a.self.size.states) _ refl, sym c.all_clear.ensures ∙ w.if-all_clear.true, filling a.self.size.inputs a.self.size.states a.self.file.now w.row_at.ensures.0 w.blocks_for.ensures.0 w.all_zero.ensures ∙ sym w.value-is ∙ c.if-all_zero.true)
      | else-all_clear w ↦ absurd (true≢false (sym c.if-all_zero.true ∙ w.value-is ∙ w.if-all_clear.false))
    ]

pub returns-else-all_zero : goal.returns-else-all_zero
unfolding rows_good
returns-else-all_zero c =
    let a = c.args in
    c.if-all_zero.false
    ∙ elim c.if-all_clear.branch [
      | then-all_clear w ↦ simp (eq-eqb (blocks_for a.self.size.inputs a.self.size.states) _ refl, sym c.all_clear.ensures ∙ w.if-all_clear.true, filling a.self.size.inputs a.self.size.states a.self.file.now w.row_at.ensures.0 w.blocks_for.ensures.0 w.all_zero.ensures ∙ sym w.value-is ∙ c.if-all_zero.false)
      | else-all_clear w ↦ simp (eq-eqb (blocks_for a.self.size.inputs a.self.size.states) _ refl, sym c.all_clear.ensures ∙ w.if-all_clear.false)
    ]
