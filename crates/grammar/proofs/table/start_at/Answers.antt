-- `grammar::table::start_at` meets its contract.
-- Assumes nothing.
use native.Mathlib.Omega.{arith}
use borrow.Author.Tests.{lt-ltb, le-ltb}
use Rattle.std.proofs.lemmas.Grind.{common_steps}
use Rattle.ll1.specs.Rows.{columns, start_of}
use Rattle.grammar.proofs.table.start_at.Goals as goal

pub returns-then-t-ge128 : goal.returns-then-t-ge128
unfolding start_of
returns-then-t-ge128 c = rw (le-ltb c.args.t columns c.if-t-ge128.true, start_of)

pub returns : goal.returns
unfolding start_of
returns c = rw (lt-ltb c.args.t columns c.if-t-ge128.false, start_of) (grind (arith, common_steps))
