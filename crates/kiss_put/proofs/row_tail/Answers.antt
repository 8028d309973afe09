-- `kiss_put::row_tail` meets its contract: four pieces in turn.
-- Assumes nothing.
use native.Mathlib.Omega.{arith}
use Rattle.kiss_put.proofs.Puts.{length-tail, put-tail}
use Rattle.kiss_law.proofs.Bits.{length-bits}
use Rattle.kiss_put.proofs.row_tail.Goals as goal

pub decimal-end-requires : goal.decimal-end-requires
decimal-end-requires c = let z = length-tail c.args.o c.args.outs c.args.next in (c.requires.0, omega (arith, c.requires.1))

pub byte-blank-requires : goal.byte-blank-requires
byte-blank-requires c = let z = length-tail c.args.o c.args.outs c.args.next in omega (arith, c.requires.1, c.decimal-end.ensures.end, c.decimal-end.ensures.long)

pub bits-shown-requires : goal.bits-shown-requires
bits-shown-requires c = let z = length-tail c.args.o c.args.outs c.args.next in omega (arith, c.requires.1, c.decimal-end.ensures.end, c.decimal-end.ensures.long, c.byte-blank.ensures.end, c.byte-blank.ensures.long)

pub byte-requires : goal.byte-requires
byte-requires c = let z = length-tail c.args.o c.args.outs c.args.next in let b = length-bits c.args.o c.args.outs in omega (arith, c.requires.1, c.decimal-end.ensures.end, c.decimal-end.ensures.long, c.byte-blank.ensures.end, c.byte-blank.ensures.long, c.bits-shown.ensures.end, c.bits-shown.ensures.long)

pub returns : goal.returns
returns c = put-tail c.args.o c.args.outs c.args.next c.requires.1 c.decimal-end.ensures c.byte-blank.ensures c.bits-shown.ensures c.byte.ensures
