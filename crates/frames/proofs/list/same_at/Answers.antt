-- `frames::list::same_at` meets its contract.
-- Assumes nothing.
use Rattle.names.proofs.Same.{same_bytes_lem}
use Rattle.words.specs.Runs.{part}
use Rattle.meaning.specs.Declared.{same_bytes}
use Prim.Native.Nat.{ℕ}
use mathlib.Core.List.{List}
use mathlib.Core.Path.{◌∙◌, ap}
use Rattle.frames.proofs.list.same_at.Goals as goal

pub returns : goal.returns
returns c = let x = part c.args.s.now c.args.a c.args.b in rw (c.from.ensures, c.from-2.ensures) at c.same_name.ensures ∙ same_bytes_lem (part c.args.s.now c.word_of-w.result.start c.word_of-w.result.end) x ∙ ap (λ (y : List ℕ). same_bytes y x) c.word_of-w.ensures.bytes
