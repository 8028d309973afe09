-- `words::same_name` meets its contract.
-- Assumes nothing.
use mathlib.Core.Path.{◌∙◌, ap₂}
use Rattle.language.specs.Words.{same}
use Rattle.spellings.proofs.Same.{same-pointwise}
use Rattle.words.proofs.same_name.Goals as goal

pub returns : goal.returns
returns c = c.eq.ensures ∙ same-pointwise _ _ ∙ ap₂ same c.part.ensures c.part-2.ensures
