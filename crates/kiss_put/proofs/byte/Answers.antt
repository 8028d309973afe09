-- `kiss_put::byte` meets its contract: one store is one byte put.
-- Assumes nothing.
use Rattle.kiss_put.proofs.Puts.{put_one}
use Rattle.kiss_put.proofs.byte.Goals as goal

pub returns : goal.returns
returns c = put_one c.args.text.now c.args.at c.args.b c.requires
