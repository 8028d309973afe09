-- `moves::move_in` meets its contract: refuses a state or an input that is not in the table, then a next state that is not, and else stands in the next state.
-- Assumes nothing.
use mathlib.Core.Path.{sym, ◌∙◌}
use Prim.Native.Nat.{◌^◌, ◌≤◌}
use Rattle.std.proofs.lemmas.Result.{err_from_is_err_and}
use Rattle.file_law.specs.Reading.{stream_in}
use Rattle.file_law.proofs.Steps.{move_no_state, move_no_input}
use Rattle.moves.proofs.Low.{Low, on, beyond, high, spare}
use Rattle.moves.proofs.move_in.Goals as goal
use Rattle.moves.proofs.move_in.Goals.{After-next_low-next, Else-pow2-input, then-size-state-via-then-size-state, then-size-state-via-else-size-state+then-pow2-input}

-- past the second test the low byte of the next state is known
known : (c : After-next_low-next) → let a = c.args in Low (stream_in a.file.now) a.size.inputs a.size.states a.state a.input c.next_low-next.result
known c = record { few = c.requires.size.states; state_in = c.if-size-state.false; input_in = rw (← c.pow2.ensures.0) c.if-pow2-input.false; low = c.next_low-next.ensures }

pub returns-then-size-state : goal.returns-then-size-state
returns-then-size-state c = let a = c.args in
    elim c.then-size-state.branch [
      | then-size-state-via-then-size-state w ↦ sym (move_no_state (stream_in a.file.now) a.size.inputs a.size.outputs a.state a.size.states a.input w.if-size-state.true)
      | then-size-state-via-else-size-state+then-pow2-input w ↦
          let h : 2 ^ a.size.inputs ≤ a.input = rw (← w.pow2.ensures.0) w.if-pow2-input.true in
          sym (move_no_input (stream_in a.file.now) a.size.inputs a.size.outputs a.state a.size.states a.input w.if-size-state.false h)
    ]

pub returns-then-size-next : goal.returns-then-size-next
returns-then-size-next c = beyond (known (goal.at.returns-then-size-next c).After-next_low-next) _ c.if-size-next.true

pub returns-in_err-stands : goal.returns-in_err-stands
returns-in_err-stands c =
    let p = err_from_is_err_and c.from_residual.result c.from_residual.ensures.1 in
    rw (p.1, p.2) (spare (known (goal.at.returns-in_err-stands c).After-next_low-next) _ c.in_err-stands.ensures)

pub returns-then-next_at-next : goal.returns-then-next_at-next
returns-then-next_at-next c =
    high (known (goal.at.returns-then-next_at-next c).After-next_low-next) _ (λ e. c.if-next_at-next.true (c.next_at.ensures.0 ∙ e))

pub returns : goal.returns
returns c =
    c.in_ok-stands.ensures
    ∙ on (known (goal.at.returns c).After-next_low-next) _ (sym c.next_at.ensures.0 ∙ c.if-next_at-next.false) c.if-size-next.false
