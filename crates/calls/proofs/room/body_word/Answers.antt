-- `calls::room::body_word` meets its contract.
-- Assumes nothing.
use Rattle.std.proofs.Common.{◌≡◌, arith}
use Rattle.calls.proofs.room.body_word.Goals as goal

pub returns : goal.returns
returns c = record {
  near = c.word_from.ensures.near;
  begins = λ h. let e : c.min.result ≡ c.args.from = omega arith in rw e at c.word_from.ensures;
}
