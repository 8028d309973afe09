use Rattle.std.proofs.Common.{◌∙◌}
use Rattle.meaning.specs.Numbers.{whole_of, value}
use Rattle.nodes.specs.Decode.{expr_at}
use Rattle.sums.proofs.Laws.{any_width, alone}
use Rattle.sums.proofs.wrapped.Goals as goal

pub returns : goal.returns
returns c = any_width (whole_of (value (expr_at c.args.left c.args.t.now c.args.j) (record { word = c.args.r.word; inputs = c.args.r.inputs }))) (c.added.ensures ∙ alone (whole_of (value (expr_at c.args.left c.args.t.now c.args.j) (record { word = c.args.r.word; inputs = c.args.r.inputs }))))
