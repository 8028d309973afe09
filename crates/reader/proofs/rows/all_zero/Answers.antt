-- `reader::rows::all_zero` meets its contract: each byte that was read is the stream's.
-- Assumes nothing.
use Rattle.std.proofs.Common.{rules, tests, arith, refl}
use Rattle.std.proofs.lemmas.Iterator.{YieldsList-from_range}
use Rattle.file_law.specs.Reading.{stream_in, zero_at}
use Rattle.reader.proofs.Each.{every_from_all}
use Rattle.reader.proofs.rows.all_zero.Goals as goal

pub returns : goal.returns
unfolding stream_in
returns c = every_from_all _ _ _ _ _ (zero_at (stream_in c.args.file.now)) c.all.ensures.ran (YieldsList-from_range _ _ _ refl refl) (λ x b q h. (search rules, grind (arith, tests)))
