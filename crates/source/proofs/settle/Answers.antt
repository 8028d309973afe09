-- `source::settle` meets its contract.
-- Assumes nothing.
use Rattle.std.proofs.Common.{arith}
use borrow.Author.Tests.{lt-ltb, le-ltb}
use Rattle.own_law.specs.Noted.{tell_by}
use Rattle.frames_law.specs.Frames.{no_place}
use Rattle.source.proofs.settle.Goals as goal

pub returns-then-six-lt65535 : goal.returns-then-six-lt65535
unfolding tell_by
returns-then-six-lt65535 c = simp (c.at.ensures, lt-ltb _ no_place c.if-six-lt65535.true)

pub returns-then-seven-lt65535 : goal.returns-then-seven-lt65535
unfolding tell_by
returns-then-seven-lt65535 c = simp (c.at-then-seven-lt65535.ensures, le-ltb _ no_place c.if-six-lt65535.false, lt-ltb _ no_place c.if-seven-lt65535.true)

pub returns-then-eight-lt65535 : goal.returns-then-eight-lt65535
unfolding tell_by
returns-then-eight-lt65535 c = simp (c.at-then-eight-lt65535.ensures, le-ltb _ no_place c.if-six-lt65535.false, le-ltb _ no_place c.if-seven-lt65535.false, lt-ltb _ no_place c.if-eight-lt65535.true)

pub returns-then-nine-lt65535 : goal.returns-then-nine-lt65535
unfolding tell_by
returns-then-nine-lt65535 c = simp (c.at-then-nine-lt65535.ensures, le-ltb _ no_place c.if-six-lt65535.false, le-ltb _ no_place c.if-seven-lt65535.false, le-ltb c.args.eight no_place (omega arith), lt-ltb _ no_place c.if-nine-lt65535.true)

pub returns-then-ten-lt65535 : goal.returns-then-ten-lt65535
unfolding tell_by
returns-then-ten-lt65535 c = simp (c.at-then-ten-lt65535.ensures, le-ltb _ no_place c.if-six-lt65535.false, le-ltb _ no_place c.if-seven-lt65535.false, le-ltb c.args.eight no_place (omega arith), le-ltb _ no_place c.if-nine-lt65535.false, lt-ltb _ no_place c.if-ten-lt65535.true)

pub returns : goal.returns
unfolding tell_by
returns c = simp (le-ltb _ no_place c.if-six-lt65535.false, le-ltb _ no_place c.if-seven-lt65535.false, le-ltb c.args.eight no_place (omega arith), le-ltb _ no_place c.if-nine-lt65535.false, le-ltb _ no_place c.if-ten-lt65535.false)
