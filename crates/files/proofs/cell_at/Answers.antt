use native.Mathlib.Omega.{arith}
use mathlib.Core.Path.{sym}
use Rattle.files.proofs.Stream.{code_past, code_outputs, code_next, column}
use Rattle.files.proofs.cell_at.Goals as goal

pub returns-then-sizes-i : goal.returns-then-sizes-i
returns-then-sizes-i c = let z = c.args.sizes in
    let r = c.requires.0 in
    code_past c.args.area.now z.inputs z.outputs z.states (omega (arith, r.inputs)) (omega (arith, r.outputs)) _ c.pow2-width.ensures.0 c.args.v c.if-sizes-i.true

pub returns-then-c-eq0 : goal.returns-then-c-eq0
returns-then-c-eq0 c = let z = c.args.sizes in
    let r = c.requires.0 in
    code_outputs c.args.area.now z.inputs z.outputs z.states (omega (arith, r.inputs)) (omega (arith, r.outputs)) _ c.pow2-width.ensures.0 c.args.v _
    c.if-sizes-i.false c.if-c-eq0.true (sym c.outputs_at.ensures)

pub read-requires : goal.read-requires
read-requires c = omega (arith, column c.pow2-width.result c.args.sizes.inputs c.args.v c.pow2-width.ensures.0 c.requires.0.inputs, c.requires.0.area, c.if-sizes-i.false)

pub returns : goal.returns
returns c = let z = c.args.sizes in
    let r = c.requires.0 in
    code_next c.args.area.now z.inputs z.outputs z.states (omega (arith, r.inputs)) (omega (arith, r.outputs)) _ c.pow2-width.ensures.0 c.args.v _
    c.if-sizes-i.false c.if-c-eq0.false (sym c.read.ensures.0)
