-- `compiler::behind::search` meets its contract.
-- Assumes nothing.
use Rattle.parts.proofs.Beside.{whole-rest}
use Rattle.search.specs.Machine.{machine_in}
use Rattle.compiler.proofs.Ends.{searched_back}
use Rattle.compiler.proofs.behind.search.Goals as goal

pub search-requires : goal.search-requires
search-requires c = (c.requires.0, rw (whole-rest c.args.at c.args.work.now) c.requires.1, c.requires.2)

pub returns : goal.returns
returns c =
    searched_back (machine_in c.args.tree.now c.args.task) c.args.task.room c.args.at c.args.work.now _ c.requires.3 c.search.result c.search.ensures
