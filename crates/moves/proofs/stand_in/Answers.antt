-- `moves::stand_in` meets its contract: stands in the state with its outputs, or refuses with 24 where a spare bit of them is set.
-- Assumes nothing.
use mathlib.Core.Path.{sym, ap, ◌∙◌}
use Prim.Native.Nat.{ℕ, ◌^◌, ◌≤◌, ◌<◌}
use Rattle.file_law.specs.Answer.{gives}
use Rattle.file_law.specs.Reading.{stream_in, outputs_at}
use Rattle.file_law.proofs.Steps.{stand_spare, stand_clear}
use Rattle.moves.proofs.stand_in.Goals as goal

pub returns-then-pow2-outputs : goal.returns-then-pow2-outputs
returns-then-pow2-outputs c = let a = c.args in
    let h : 2 ^ a.size.outputs ≤ outputs_at (stream_in a.file.now) a.size.inputs a.state = rw (← c.pow2.ensures.0, ← c.outputs_at-outputs.ensures.0) c.if-pow2-outputs.true in
    sym (stand_spare (stream_in a.file.now) a.size.inputs a.size.outputs a.state h)

pub returns : goal.returns
returns c = let a = c.args in
    let h : outputs_at (stream_in a.file.now) a.size.inputs a.state < 2 ^ a.size.outputs = rw (← c.pow2.ensures.0, ← c.outputs_at-outputs.ensures.0) c.if-pow2-outputs.false in
    ap (λ (x : ℕ). gives (record { state = a.state; outputs = x })) c.outputs_at-outputs.ensures.0 ∙ sym (stand_clear (stream_in a.file.now) a.size.inputs a.size.outputs a.state h)
