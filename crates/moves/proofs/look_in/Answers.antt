-- `moves::look_in` meets its contract: refuses a state that is not in the table, and else stands in it.
-- Assumes nothing.
use mathlib.Core.Path.{sym, ◌∙◌}
use Rattle.file_law.specs.Reading.{stream_in}
use Rattle.file_law.proofs.Steps.{look-beyond, look_on}
use Rattle.moves.proofs.look_in.Goals as goal

pub returns-then-size-state : goal.returns-then-size-state
returns-then-size-state c = let a = c.args in
    sym (look-beyond (stream_in a.file.now) a.size.inputs a.size.outputs a.state a.size.states c.if-size-state.true)

pub returns : goal.returns
returns c = let a = c.args in
    c.stand_in.ensures ∙ sym (look_on (stream_in a.file.now) a.size.inputs a.size.outputs a.state a.size.states c.if-size-state.false)
