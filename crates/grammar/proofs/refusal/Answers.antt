-- `grammar::refusal` meets its contract: the rest of the text has the 4, or the text has none.
-- Assumes nothing.
use mathlib.Core.Path.{sym, ◌∙◌}
use mathlib.Core.Logic.{inr}
use native.Mathlib.Omega.{arith}
use Rattle.grammar.proofs.Answers.{four-inside, is_four}
use Rattle.grammar.proofs.refusal.Goals as goal

pub overflow_cast-result : goal.overflow_cast-result
overflow_cast-result c =
    omega (arith, four-inside c.args.text.now (c.stop_from.ensures ∙ c.requires.rest) c.in-Some.is, c.requires.short)

pub returns-in-Some : goal.returns-in-Some
returns-in-Some c =
    inr (c.requires.short, is_four c.args.text.now (c.stop_from.ensures ∙ c.requires.rest) c.in-Some.is)

pub returns-in-None : goal.returns-in-None
returns-in-None c =
    inr (c.requires.short, c.requires.five (sym c.requires.rest ∙ sym c.stop_from.ensures ∙ c.in-None.is))
