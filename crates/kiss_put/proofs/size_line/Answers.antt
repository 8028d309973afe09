-- `kiss_put::size_line` meets its contract: five pieces in turn.
-- Assumes nothing.
use native.Mathlib.Omega.{arith}
use Rattle.kiss_put.proofs.Puts.{length-line, put-line}
use Rattle.kiss_put.proofs.size_line.Goals as goal

pub byte-dot-requires : goal.byte-dot-requires
byte-dot-requires c = let z = length-line c.args.letter c.args.n in omega (arith, c.requires.1)

pub byte-word-requires : goal.byte-word-requires
byte-word-requires c = let z = length-line c.args.letter c.args.n in omega (arith, c.requires.1, c.byte-dot.ensures.end, c.byte-dot.ensures.long)

pub byte-blank-requires : goal.byte-blank-requires
byte-blank-requires c = let z = length-line c.args.letter c.args.n in omega (arith, c.requires.1, c.byte-dot.ensures.end, c.byte-dot.ensures.long, c.byte-word.ensures.end, c.byte-word.ensures.long)

pub decimal-end-requires : goal.decimal-end-requires
decimal-end-requires c = let z = length-line c.args.letter c.args.n in (c.requires.0, omega (arith, c.requires.1, c.byte-dot.ensures.end, c.byte-dot.ensures.long, c.byte-word.ensures.end, c.byte-word.ensures.long, c.byte-blank.ensures.end, c.byte-blank.ensures.long))

pub byte-requires : goal.byte-requires
byte-requires c = let z = length-line c.args.letter c.args.n in omega (arith, c.requires.1, c.byte-dot.ensures.end, c.byte-dot.ensures.long, c.byte-word.ensures.end, c.byte-word.ensures.long, c.byte-blank.ensures.end, c.byte-blank.ensures.long, c.decimal-end.ensures.end, c.decimal-end.ensures.long)

pub returns : goal.returns
returns c = put-line c.args.letter c.args.n c.requires.1 c.byte-dot.ensures c.byte-word.ensures c.byte-blank.ensures c.decimal-end.ensures c.byte.ensures
