use Rattle.std.proofs.Common.{ap, ◌∙◌, arith}
use Rattle.meaning.specs.Numbers.{low_bits}
use Rattle.nodes.specs.Decode.{expr_at}
use Rattle.value.proofs.Laws.{through, size_of_lem, whole-flat}
use Rattle.sums.proofs.exact.Goals as goal

pub low_bits-requires : goal.low_bits-requires
low_bits-requires c = rw (through _ c.operand.type_inv) (omega (arith, c.requires.0, size_of_lem (expr_at c.args.left c.args.t.now c.args.j) (record { word = c.args.r.word; inputs = c.args.r.inputs }) c.requires.1.0 c.operand.ensures))

pub returns : goal.returns
returns c = c.low_bits.ensures ∙ ap (low_bits 32) (through _ c.operand.type_inv ∙ c.operand.ensures ∙ whole-flat (expr_at c.args.left c.args.t.now c.args.j) (record { word = c.args.r.word; inputs = c.args.r.inputs }) c.requires.1.0)
