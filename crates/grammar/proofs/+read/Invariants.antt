-- What falls with each call of `grammar::read`: 16 for each level left, and the calls that the row can need before a level opens.
-- With each turn: the words left, and the symbols that read none.
-- Assumes nothing.
use Rattle.std.proofs.Common.{◌+◌, ◌*◌}
use Rattle.ll1.specs.Rows.{most_deep, row, deep}
use Rattle.ll1.proofs.Steps.{Going, left}
use Rattle.grammar_law.specs.Tables.{depth, turn}
use Rattle.grammar_law.specs.Codes.{codes, choice}
use Rattle.grammar.specs.Reading.{codes_in, Stands}
use Rattle.grammar.proofs.+read.Given as goal

abbrev pub decreases-read : goal.decreases-read
decreases-read l = l.levels * most_deep + deep depth 0 (row codes l.rows.now l.at)

abbrev pub invariant-loop-w : goal.invariant-loop-w
invariant-loop-w l = Going codes choice depth (codes_in l.s) (row codes l.rows l.at) l.initial.w.number l.levels (row codes l.rows l.p) l.w.number l.k × Stands l.s l.w

abbrev pub decreases-loop-w : goal.decreases-loop-w
decreases-loop-w l = left turn (codes_in l.s) l.w.number (row codes l.rows l.p)
