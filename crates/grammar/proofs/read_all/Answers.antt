-- `grammar::read_all` meets its contract: the tables are those of the definitions.
-- Assumes nothing.
use Rattle.grammar.proofs.Answers.{at_start_lem, ready, not_read, words-behind, is_program}
use Rattle.grammar.proofs.read_all.Goals as goal

pub word_from-first-requires : goal.word_from-first-requires
word_from-first-requires c = at_start_lem c.args.text.now

pub read-requires : goal.read-requires
read-requires c =
    ready c.args.text.now c.all_rows-rows.ensures c.all_starts-starts.ensures c.requires c.word_from-first.ensures.0

pub refusal-requires : goal.refusal-requires
refusal-requires c =
    words-behind c.args.text.now c.all_rows-rows.ensures c.read.ensures c.word_from-first.ensures.1 c.in-Ok.is c.requires c.if-w-text.false

pub refusal-requires-in-Err : goal.refusal-requires-in-Err
refusal-requires-in-Err c =
    not_read c.args.text.now c.all_rows-rows.ensures c.read.ensures c.word_from-first.ensures.1 c.requires c.in-Err.is

pub returns-in-Ok : goal.returns-in-Ok
returns-in-Ok c =
    (c.requires, (_, is_program c.args.text.now c.all_rows-rows.ensures c.read.ensures c.word_from-first.ensures.1 c.in-Ok.is c.if-w-text.true))
