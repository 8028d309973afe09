-- `kiss_write::heading_length` meets its contract.
-- Assumes nothing.
use native.Mathlib.Omega.{arith}
use Rattle.kiss_write.proofs.Held.{few-rows, length-heading}
use Rattle.kiss_law.proofs.Decimal.{length-decimal}
use Prim.Native.Nat.{ℕ, ◌*◌, ◌≤◌}
use mathlib.Core.Path.{sym, ap, subst}
use lib.ListN.{length}
use Rattle.kiss_law.specs.Text.{decimal}
use Rattle.kiss_write.proofs.heading_length.Goals as goal

pub overflow_mul-rows : goal.overflow_mul-rows
overflow_mul-rows c = let q : c.args.z.states * c.pow2.result ≤ 16384 = subst (λ (x : ℕ). c.args.z.states * x ≤ 16384) (sym c.pow2.ensures.0) (few-rows c.args.z.inputs c.args.z.states c.requires.inputs c.requires.states) in omega arith

pub overflow_add-result : goal.overflow_add-result
overflow_add-result c = omega (arith, c.digits.ensures, length-decimal 5 c.args.z.inputs, length-decimal 5 c.args.z.outputs, length-decimal 5 c.args.z.states, length-decimal 5 (c.args.z.states * c.pow2.result))

pub overflow_add-result-2 : goal.overflow_add-result-2
overflow_add-result-2 c = omega (arith, c.digits.ensures, c.digits-2.ensures, length-decimal 5 c.args.z.inputs, length-decimal 5 c.args.z.outputs, length-decimal 5 c.args.z.states, length-decimal 5 (c.args.z.states * c.pow2.result))

pub digits-requires-3 : goal.digits-requires-3
digits-requires-3 c = let q : c.args.z.states * c.pow2.result ≤ 16384 = subst (λ (x : ℕ). c.args.z.states * x ≤ 16384) (sym c.pow2.ensures.0) (few-rows c.args.z.inputs c.args.z.states c.requires.inputs c.requires.states) in omega arith

pub overflow_add-result-3 : goal.overflow_add-result-3
overflow_add-result-3 c = omega (arith, c.digits.ensures, c.digits-2.ensures, c.digits-3.ensures, length-decimal 5 c.args.z.inputs, length-decimal 5 c.args.z.outputs, length-decimal 5 c.args.z.states, length-decimal 5 (c.args.z.states * c.pow2.result))

pub overflow_add-result-4 : goal.overflow_add-result-4
overflow_add-result-4 c = omega (arith, c.digits.ensures, c.digits-2.ensures, c.digits-3.ensures, c.digits-4.ensures, length-decimal 5 c.args.z.inputs, length-decimal 5 c.args.z.outputs, length-decimal 5 c.args.z.states, length-decimal 5 (c.args.z.states * c.pow2.result))

pub returns : goal.returns
returns c = let z = ap (λ (x : ℕ). length (decimal (c.args.z.states * x))) c.pow2.ensures.0 in omega (arith, length-heading c.args.z.inputs c.args.z.outputs c.args.z.states, c.digits.ensures, c.digits-2.ensures, c.digits-3.ensures, c.digits-4.ensures, length-decimal 5 c.args.z.inputs, length-decimal 5 c.args.z.outputs, length-decimal 5 c.args.z.states, length-decimal 5 (c.args.z.states * c.pow2.result))
