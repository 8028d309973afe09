-- `compiler::behind::write_file` meets its contract.
-- Assumes nothing.
use Rattle.parts.proofs.Beside.{whole-rest}
use Rattle.compiler.proofs.behind.write_file.Goals as goal

pub write_file-requires : goal.write_file-requires
write_file-requires c = rw (whole-rest c.args.at c.args.work.now) c.requires.0

pub returns : goal.returns
returns c = rw (whole-rest c.args.at c.args.work.now) at c.write_file.ensures
