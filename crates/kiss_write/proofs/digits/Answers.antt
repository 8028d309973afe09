-- `kiss_write::digits` meets its contract: a tenth has one digit less.
-- Assumes nothing.
use native.Mathlib.Omega.{arith}
use Rattle.kiss_put.proofs.Puts.{length-few, length_tens}
use Prim.Native.Nat.{◌/◌}
use Rattle.kiss_write.proofs.digits.Goals as goal

pub returns-in-0-to-9 : goal.returns-in-0-to-9
returns-in-0-to-9 c = let n = c.args.n in omega (arith, length-few n (omega arith))

pub returns-in-10-to-99 : goal.returns-in-10-to-99
returns-in-10-to-99 c = let n = c.args.n in omega (arith, length_tens n (omega arith) (omega arith), length-few (n / 10) (omega arith))

pub returns-in-100-to-999 : goal.returns-in-100-to-999
returns-in-100-to-999 c = let n = c.args.n in omega (arith, length_tens n (omega arith) (omega arith), length_tens (n / 10) (omega arith) (omega arith), length-few (n / 10 / 10) (omega arith))

pub returns-in-1000-to-9999 : goal.returns-in-1000-to-9999
returns-in-1000-to-9999 c = let n = c.args.n in omega (arith, length_tens n (omega arith) (omega arith), length_tens (n / 10) (omega arith) (omega arith), length_tens (n / 10 / 10) (omega arith) (omega arith), length-few (n / 10 / 10 / 10) (omega arith))

pub returns-in_default : goal.returns-in_default
returns-in_default c = let n = c.args.n in omega (arith, c.requires, length_tens n (omega arith) (omega (arith, c.requires)), length_tens (n / 10) (omega arith) (omega (arith, c.requires)), length_tens (n / 10 / 10) (omega arith) (omega (arith, c.requires)), length_tens (n / 10 / 10 / 10) (omega arith) (omega (arith, c.requires)), length-few (n / 10 / 10 / 10 / 10) (omega (arith, c.requires)))
