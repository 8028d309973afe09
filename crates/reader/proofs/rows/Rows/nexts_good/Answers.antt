-- `reader::rows::Rows::nexts_good` meets its contract: each call says what the test says.
-- Assumes nothing.
use Rattle.std.proofs.Common.{rules, tests, arith, refl}
use Rattle.std.proofs.lemmas.Iterator.{YieldsList-from_range}
use Rattle.file_law.specs.Reading.{stream_in, next_good}
use Rattle.reader.proofs.Each.{every_from_all}
use Rattle.reader.proofs.rows.Rows.nexts_good.Goals as goal

pub returns : goal.returns
returns c = every_from_all _ _ _ _ _ (next_good (stream_in c.args.self.file.now) c.args.self.size.inputs c.args.self.size.states c.args.state) c.all.ensures.ran (YieldsList-from_range _ _ _ refl (omega (arith, c.pow2.ensures.0))) (λ x b q h. (search rules, grind (arith, tests)))
