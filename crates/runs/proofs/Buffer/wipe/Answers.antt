use Rattle.std.proofs.Common.{rules}
use Rattle.std.proofs.lemmas.Slice.{overwrites}
use Rattle.runs.specs.Buffer.{wiped}
use Rattle.runs.proofs.Buffer.wipe.Goals as goal

pub returns : goal.returns
unfolding wiped
returns c = let ys = c.fill.ensures.after (λ y h. h) in rw ys (record { long = search (rules, overwrites); entries = search (rules, overwrites); mask = search rules })
