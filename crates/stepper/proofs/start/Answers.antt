-- `stepper::start` meets its contract: what opening refuses is refused, and a sound file has a state 0, whose outputs are read.
-- Assumes nothing.
use mathlib.Core.Path.{sym, ap, ◌∙◌, subst}
use Prim.Native.Nat.{ℕ, ◌≤◌}
use native.Mathlib.Omega.{arith}
use Rattle.std.proofs.lemmas.Result.{err_from_is_err_and}
use Rattle.file_law.specs.Answer.{gives}
use Rattle.file_law.specs.Table.{most_inputs}
use Rattle.file_law.specs.Reading.{Sizes, stream_in}
use Rattle.file_law.specs.Stepping.{start_in, start_answer}
use Rattle.file_law.proofs.Sound.{Sound, sound}
use Rattle.stepper.proofs.start.Goals as goal
use Rattle.stepper.proofs.start.Goals.{In_ok-size}

abbrev sizes : In_ok-size → Sizes
sizes c = record { inputs = c.in_ok-size.size.inputs; outputs = c.in_ok-size.size.outputs; states = c.in_ok-size.size.states }

accepted : (c : In_ok-size) → Sound c.args.file.now (sizes c)
accepted c = sound c.args.file.now (sizes c) (sym c.in_ok-size.ensures)

few : (c : In_ok-size) → c.in_ok-size.size.inputs ≤ most_inputs
few c = subst (λ (z : Sizes). z.inputs ≤ most_inputs) (sym (accepted c).sizes) (accepted c).shape.size.inputs

pub outputs_at-requires : goal.outputs_at-requires
outputs_at-requires c = (few (goal.at.outputs_at-requires c).In_ok-size, omega arith, omega (arith, (accepted (goal.at.outputs_at-requires c).In_ok-size).shape.long))

pub returns-in_err-size : goal.returns-in_err-size
unfolding start_answer
returns-in_err-size c =
    let p = err_from_is_err_and c.from_residual.result c.from_residual.ensures.1 in
    rw (p.1, p.2) (ap (start_in (stream_in c.args.file.now)) c.in_err-size.ensures)

pub returns : goal.returns
unfolding start_answer
returns c =
    ap (λ (x : ℕ). gives (record { state = 0; outputs = x })) c.outputs_at.ensures.0 ∙ ap (start_in (stream_in c.args.file.now)) c.in_ok-size.ensures
