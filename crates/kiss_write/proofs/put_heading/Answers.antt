-- `kiss_write::put_heading` meets its contract: five lines in turn.
-- Assumes nothing.
use native.Mathlib.Omega.{arith}
use Rattle.kiss_write.proofs.Held.{few-rows, length-heading}
use Rattle.kiss_write.proofs.Ends.{heading-put}
use Rattle.kiss_put.proofs.Puts.{length-line}
use Prim.Native.Nat.{ℕ, ◌*◌, ◌≤◌}
use mathlib.Core.Path.{sym, ap, subst}
use lib.ListN.{length}
use Rattle.kiss_law.specs.Text.{decimal}
use Rattle.kiss_write.proofs.put_heading.Goals as goal

pub overflow_mul-rows : goal.overflow_mul-rows
overflow_mul-rows c = let q : c.args.z.states * c.pow2.result ≤ 16384 = subst (λ (x : ℕ). c.args.z.states * x ≤ 16384) (sym c.pow2.ensures.0) (few-rows c.args.z.inputs c.args.z.states c.requires.0.inputs c.requires.0.states) in omega arith

pub size_line-inputs-requires : goal.size_line-inputs-requires
size_line-inputs-requires c = let z = ap (λ (x : ℕ). length (decimal (c.args.z.states * x))) c.pow2.ensures.0 in (omega (arith, c.requires.0.inputs), omega (arith, length-heading c.args.z.inputs c.args.z.outputs c.args.z.states, length-line 105 c.args.z.inputs, length-line 111 c.args.z.outputs, length-line 112 (c.args.z.states * c.pow2.result), length-line 115 c.args.z.states, c.requires.1))

pub size_line-outputs-requires : goal.size_line-outputs-requires
size_line-outputs-requires c = let z = ap (λ (x : ℕ). length (decimal (c.args.z.states * x))) c.pow2.ensures.0 in (omega (arith, c.requires.0.outputs), omega (arith, length-heading c.args.z.inputs c.args.z.outputs c.args.z.states, length-line 105 c.args.z.inputs, length-line 111 c.args.z.outputs, length-line 112 (c.args.z.states * c.pow2.result), length-line 115 c.args.z.states, c.requires.1, c.size_line-inputs.ensures.end, c.size_line-inputs.ensures.long))

pub size_line-products-requires : goal.size_line-products-requires
size_line-products-requires c = let q : c.args.z.states * c.pow2.result ≤ 16384 = subst (λ (x : ℕ). c.args.z.states * x ≤ 16384) (sym c.pow2.ensures.0) (few-rows c.args.z.inputs c.args.z.states c.requires.0.inputs c.requires.0.states) in let z = ap (λ (x : ℕ). length (decimal (c.args.z.states * x))) c.pow2.ensures.0 in (omega arith, omega (arith, length-heading c.args.z.inputs c.args.z.outputs c.args.z.states, length-line 105 c.args.z.inputs, length-line 111 c.args.z.outputs, length-line 112 (c.args.z.states * c.pow2.result), length-line 115 c.args.z.states, c.requires.1, c.size_line-inputs.ensures.end, c.size_line-inputs.ensures.long, c.size_line-outputs.ensures.end, c.size_line-outputs.ensures.long))

pub size_line-states-requires : goal.size_line-states-requires
size_line-states-requires c = let z = ap (λ (x : ℕ). length (decimal (c.args.z.states * x))) c.pow2.ensures.0 in (omega (arith, c.requires.0.states), omega (arith, length-heading c.args.z.inputs c.args.z.outputs c.args.z.states, length-line 105 c.args.z.inputs, length-line 111 c.args.z.outputs, length-line 112 (c.args.z.states * c.pow2.result), length-line 115 c.args.z.states, c.requires.1, c.size_line-inputs.ensures.end, c.size_line-inputs.ensures.long, c.size_line-outputs.ensures.end, c.size_line-outputs.ensures.long, c.size_line-products.ensures.end, c.size_line-products.ensures.long))

pub bytes-requires : goal.bytes-requires
bytes-requires c = let z = ap (λ (x : ℕ). length (decimal (c.args.z.states * x))) c.pow2.ensures.0 in omega (arith, length-heading c.args.z.inputs c.args.z.outputs c.args.z.states, length-line 105 c.args.z.inputs, length-line 111 c.args.z.outputs, length-line 112 (c.args.z.states * c.pow2.result), length-line 115 c.args.z.states, c.requires.1, c.size_line-inputs.ensures.end, c.size_line-inputs.ensures.long, c.size_line-outputs.ensures.end, c.size_line-outputs.ensures.long, c.size_line-products.ensures.end, c.size_line-products.ensures.long, c.size_line-states.ensures.end, c.size_line-states.ensures.long)

pub returns : goal.returns
returns c = heading-put c.args.z.inputs c.args.z.outputs c.args.z.states c.pow2.result c.pow2.ensures.0 c.requires.1 c.size_line-inputs.ensures c.size_line-outputs.ensures c.size_line-products.ensures c.size_line-states.ensures c.bytes.ensures
