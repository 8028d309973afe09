-- `spellings::stands_in` meets its contract: the row's bytes from one start to the next are the spelling.
-- Assumes nothing.
use mathlib.Core.Path.{◌∙◌, ap₂}
use Prim.Native.Nat.{ℕ}
use lib.ListN.{drop}
use Rattle.language.specs.Scan.{begins}
use Rattle.spellings.specs.Part.{part}
use Rattle.spellings.proofs.Fitting.{row-stands}
use Rattle.spellings.proofs.stands_in.Goals as goal

pub returns : goal.returns
returns c =
    let a = c.args in
    row-stands a.row.now a.starts.now a.s.now a.at a.k c.requires.0 c.requires.1
    (c.stands.ensures ∙ ap₂ (λ (b f : ℕ). begins (drop a.at a.s.now) (part a.row.now b f)) c.from-b.ensures c.from-f.ensures)
