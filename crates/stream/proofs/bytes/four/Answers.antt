-- `stream::bytes::four` meets its contract.
-- Assumes nothing.
use Rattle.std.proofs.Common.{arith}
use Rattle.file_law.specs.Bytes.{word4}
use Rattle.stream.proofs.bytes.four.Goals as goal

pub returns : goal.returns
unfolding word4
returns c = grind arith
