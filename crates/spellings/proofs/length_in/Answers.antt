-- `spellings::length_in` meets its contract: a sign has one byte or two.
-- Assumes nothing.
use native.Mathlib.Omega.{arith}
use Rattle.spellings.proofs.Fitting.{one_byte, two_bytes}
use Rattle.spellings.proofs.length_in.Goals as goal

pub returns-then-seconds-k-eq0 : goal.returns-then-seconds-k-eq0
returns-then-seconds-k-eq0 c = one_byte c.args.k (omega arith) _ (c.requires.0.told c.args.k c.requires.1) c.if-seconds-k-eq0.true

pub returns-else-seconds-k-eq0 : goal.returns-else-seconds-k-eq0
returns-else-seconds-k-eq0 c = two_bytes c.args.k (omega arith) _ (c.requires.0.told c.args.k c.requires.1) c.if-seconds-k-eq0.false
