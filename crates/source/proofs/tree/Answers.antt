-- `source::tree` meets its contract.
-- Assumes nothing.
use mathlib.Core.Path.{sym}
use Rattle.std.proofs.Common.{length-take-le}
use Rattle.source.specs.Area.{tree_of}
use Rattle.source.proofs.tree.Goals as goal

pub copy_from_slice-requires : goal.copy_from_slice-requires
copy_from_slice-requires c = sym (length-take-le 16384 c.args.work.now c.requires)

pub returns : goal.returns
unfolding tree_of
returns c = c.copy_from_slice.ensures.after
