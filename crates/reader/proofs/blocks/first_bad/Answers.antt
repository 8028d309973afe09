-- `reader::blocks::first_bad` meets its contract: the first block of which the test doesn't hold.
-- Assumes nothing.
use Rattle.std.proofs.Common.{rules, tests, arith, refl}
use Rattle.std.proofs.lemmas.Iterator.{YieldsList-from_range}
use Rattle.file_law.specs.Reading.{block_good}
use Rattle.reader.proofs.Each.{first_from_calls}
use Rattle.reader.proofs.blocks.first_bad.Goals as goal

pub returns : goal.returns
returns c = first_from_calls _ _ _ (block_good c.args.file.now c.args.total) _ c.find.ensures.ran (YieldsList-from_range _ _ _ refl (omega arith)) (λ x b q h. (search rules, search (rules, tests)))
