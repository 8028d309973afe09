-- `kiss_put::bytes` meets its contract: the part that comes back is the word.
-- Assumes nothing.
use Rattle.kiss_put.proofs.Puts.{put_part}
use Rattle.kiss_put.proofs.bytes.Goals as goal

pub returns : goal.returns
returns c = put_part c.args.text.now c.args.word.now c.copy_from_slice.new.self c.args.at c.requires c.copy_from_slice.ensures.after
