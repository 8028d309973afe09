use Rattle.std.proofs.Common.{ℕ, ◌+◌, ◌%◌, ◌^◌, ap, ◌∙◌, arith}
use Rattle.meaning.specs.Numbers.{whole_of, value}
use Rattle.nodes.specs.Decode.{expr_at}
use Rattle.sums.proofs.Laws.{alone, none_added, first-right, second-right, row-right}
use Rattle.sums.proofs.+added_operand.Goals as goal

pub added-returns-then-left-eq0 : goal.added-returns-then-left-eq0
added-returns-then-left-eq0 t c = none_added c.args.left c.args.t.now c.args.j (record { word = c.args.r.word; inputs = c.args.r.inputs }) c.args.x (omega arith) c.if-left-eq0.true

pub added-operand-y-requires : goal.added-operand-y-requires
added-operand-y-requires t c = (omega arith, second-right c.args.left c.args.t.now c.args.j c.if-left-eq0.false c.term_at.ensures c.in-Some.is c.requires.1.1)

pub added-added-requires : goal.added-added-requires
added-added-requires t c = (omega arith, first-right c.args.left c.args.t.now c.args.j c.if-left-eq0.false c.term_at.ensures c.in-Some.is c.requires.1.1)

pub added-exact-requires : goal.added-exact-requires
added-exact-requires t c = c.requires

pub added-returns-in-Some : goal.added-returns-in-Some
added-returns-in-Some t c = c.added.ensures ∙ row-right c.args.left c.args.t.now c.args.j c.if-left-eq0.false c.term_at.ensures c.in-Some.is (record { word = c.args.r.word; inputs = c.args.r.inputs }) c.args.x c.operand-y.ensures c.joined.ensures

pub added-returns-in-None : goal.added-returns-in-None
added-returns-in-None t c = ap (λ (y : ℕ). (c.args.x + y) % 2 ^ 32) c.exact.ensures

pub operand-added-requires : goal.operand-added-requires
operand-added-requires t c = (omega arith, c.requires)

pub operand-exact-requires : goal.operand-exact-requires
operand-exact-requires t c = c.requires

pub operand-returns-in-Some : goal.operand-returns-in-Some
operand-returns-in-Some t c = c.added.ensures ∙ alone (whole_of (value (expr_at c.args.left c.args.t.now c.args.j) (record { word = c.args.r.word; inputs = c.args.r.inputs })))

pub operand-returns-in-None : goal.operand-returns-in-None
operand-returns-in-None t c = c.exact.ensures
