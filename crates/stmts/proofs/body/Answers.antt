-- `stmts::body` meets its contract.
-- Assumes nothing.
use borrow.Author.Rules.{rules}
use Rattle.parts.specs.Beside.{beside}
use Rattle.stmts.proofs.body.Goals as goal

pub list-requires : goal.list-requires
unfolding beside
list-requires c = search rules

pub returns : goal.returns
returns c = rw c.start.ensures at c.list.ensures
