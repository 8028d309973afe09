-- `compiler::finish` meets its contract.
-- Assumes nothing.
use native.Mathlib.Omega.{arith}
use lib.ListN.{drop}
use mathlib.Core.Path.{◌≡◌}
use Rattle.compiler.proofs.Ends.{task_of, k_small, known, behind-long, sized, over_so, small-so, short-so, made_so}
use Rattle.compiler.specs.Answered.{EndsSo, file_made}
use Rattle.compiler.proofs.finish.Goals as goal

pub pow2-requires : goal.pow2-requires
pow2-requires c = omega (arith, k_small c.requires.0)

pub search-requires : goal.search-requires
search-requires c = let g = known (task_of c.args.p c.pow2.result c.args.room) c.requires.0 c.requires.1 c.pow2.ensures.0 in
    (c.requires.0.ready 1536 c.requires.1, sized g c.requires.2 (behind-long 16384 c.args.work.now (omega arith)), c.requires.2.room.some, omega (arith, c.requires.2.work))

pub returns-in_default : goal.returns-in_default
returns-in_default c = let g = known (task_of c.args.p c.pow2.result c.args.room) c.requires.0 c.requires.1 c.pow2.ensures.0 in
    (over_so g c.requires.2 (drop 16384 c.args.work.now) (drop 16384 c.search.new.work) c.in_default.ensures.0, c.search.ensures.1)

pub write_file-requires : goal.write_file-requires
write_file-requires c = let g = known (task_of c.args.p c.pow2.result c.args.room) c.requires.0 c.requires.1 c.pow2.ensures.0 in (
  small-so g c.requires.2 (drop 16384 c.args.work.now) (drop 16384 c.search.new.work) c.in-Some.n c.in-Some.ensures.0 (behind-long 16384 c.args.work.now (omega arith)),
  omega (arith, c.requires.2.work, c.search.ensures.1),
)

pub returns-in_default-write_file : goal.returns-in_default-write_file
returns-in_default-write_file c = let g = known (task_of c.args.p c.pow2.result c.args.room) c.requires.0 c.requires.1 c.pow2.ensures.0 in
    (short-so g c.requires.2 (drop 16384 c.args.work.now) (drop 16384 c.search.new.work) c.in-Some.n c.in-Some.ensures.0 c.write_file.new.file c.in_default-write_file.ensures, c.search.ensures.1)

pub returns : goal.returns
returns c = let g = known (task_of c.args.p c.pow2.result c.args.room) c.requires.0 c.requires.1 c.pow2.ensures.0 in
    rw c.from.ensures (
      made_so g c.requires.2 (drop 16384 c.args.work.now) (drop 16384 c.search.new.work) c.in-Some.n c.in-Some.ensures.0 c.write_file.new.file c.in-Some-write_file.blocks c.in-Some-write_file.ensures,
      c.search.ensures.1,
    )
