-- `stream::bytes::word` meets its contract.
-- Assumes nothing.
use Rattle.std.proofs.Common.{arith}
use Rattle.file_law.specs.Bytes.{word2}
use Rattle.stream.proofs.bytes.word.Goals as goal

pub returns : goal.returns
unfolding word2
returns c = grind arith
