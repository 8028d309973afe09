-- `spellings::bytes::stands` meets its contract: the text from there on starts with the part.
-- Assumes nothing.
use mathlib.Core.Path.{◌∙◌, ap₂}
use Prim.Native.Nat.{min}
use lib.ListN.{length}
use Rattle.std.proofs.lemmas.List.{take_rest}
use Rattle.language.specs.Scan.{begins}
use Rattle.spellings.proofs.Parts.{starts-begins, drop_cut}
use Rattle.spellings.proofs.bytes.stands.Goals as goal

pub returns : goal.returns
returns c =
    let a = c.args in
    c.starts_with.ensures.value ∙ starts-begins _ c.part.result.now ∙ ap₂ begins (rw c.min.ensures (take_rest a.s.now (min a.at (length a.s.now)) ∙ drop_cut a.at a.s.now)) c.part.ensures
