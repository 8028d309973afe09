-- `kiss_put::row_head` meets its contract: four pieces in turn.
-- Assumes nothing.
use native.Mathlib.Omega.{arith}
use Rattle.kiss_put.proofs.Puts.{length-head, put-head}
use Rattle.kiss_law.proofs.Bits.{length-bits}
use Rattle.kiss_put.proofs.row_head.Goals as goal

pub bits-inputs-requires : goal.bits-inputs-requires
bits-inputs-requires c = let z = length-head c.args.k c.args.state c.args.input in omega (arith, c.requires.1)

pub mark-marked-requires : goal.mark-marked-requires
mark-marked-requires c = let z = length-head c.args.k c.args.state c.args.input in let b = length-bits c.args.k c.args.input in omega (arith, c.requires.1, c.bits-inputs.ensures.end, c.bits-inputs.ensures.long)

pub decimal-end-requires : goal.decimal-end-requires
decimal-end-requires c = let z = length-head c.args.k c.args.state c.args.input in let b = length-bits c.args.k c.args.input in (c.requires.0, omega (arith, c.requires.1, c.bits-inputs.ensures.end, c.bits-inputs.ensures.long, c.mark-marked.ensures.end, c.mark-marked.ensures.long))

pub mark-requires : goal.mark-requires
mark-requires c = let z = length-head c.args.k c.args.state c.args.input in let b = length-bits c.args.k c.args.input in omega (arith, c.requires.1, c.bits-inputs.ensures.end, c.bits-inputs.ensures.long, c.mark-marked.ensures.end, c.mark-marked.ensures.long, c.decimal-end.ensures.end, c.decimal-end.ensures.long)

pub returns : goal.returns
returns c = put-head c.args.k c.args.state c.args.input c.requires.1 c.bits-inputs.ensures c.mark-marked.ensures c.decimal-end.ensures c.mark.ensures
