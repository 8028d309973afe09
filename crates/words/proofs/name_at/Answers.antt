-- `words::name_at` meets its contract.
-- Assumes nothing.
use native.Mathlib.Omega.{arith}
use Rattle.words.proofs.NameLaws.{name-some, name-inside, reserved-word, name-short, name-long}
use Rattle.words.proofs.name_at.Goals as goal

pub reserved-requires : goal.reserved-requires
reserved-requires c =
    let a = c.args in
    (name-some a.s.now a.at c.requires.0 c.requires.1 _ c.name_end-end.ensures, name-inside a.s.now a.at c.requires.0 c.requires.1 _ c.name_end-end.ensures)

pub returns-in-Some : goal.returns-in-Some
returns-in-Some c =
    reserved-word c.args.s.now c.args.at c.requires.0 c.requires.1 _ c.name_end-end.ensures c.in-Some.ensures

pub returns-then-end-at-le-LONGEST_NAME : goal.returns-then-end-at-le-LONGEST_NAME
returns-then-end-at-le-LONGEST_NAME c =
    name-short c.args.s.now c.args.at c.requires.0 c.requires.1 _ c.name_end-end.ensures c.in_default.ensures (omega arith)

pub returns : goal.returns
returns c =
    name-long c.args.s.now c.args.at c.requires.0 c.requires.1 _ c.name_end-end.ensures c.in_default.ensures (omega arith)
