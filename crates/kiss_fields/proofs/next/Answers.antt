-- `kiss_fields::next` meets its contract: a first digit below n, and the rest.
-- Assumes nothing.
use mathlib.Core.Path.{sym, ◌∙◌}
use native.Mathlib.Omega.{arith}
use Rattle.kiss_fields.proofs.Taking.{so-first, first-stop}
use Rattle.kiss_fields.proofs.next.Goals as goal

pub returns-in_default : goal.returns-in_default
returns-in_default c = let e = c.in_default.ensures.lookup.3 in first-stop c.args.n c.requires.2 c.args.text.now c.args.at c.requires.1 c.requires.0 (λ l. absurd (omega arith))

pub more_digits-requires : goal.more_digits-requires
more_digits-requires c =
    let e = c.in-Some.ensures.lookup.3 in
    let d = c.in-Some-digit.ensures in
    (c.requires.2, c.if-first-n.true, so-first c.args.text.now c.args.at c.in-Some-digit.first e.0 d.0 (sym (e.1 0) ∙ d.1))

pub returns-in_default-digit : goal.returns-in_default-digit
returns-in_default-digit c =
    let e = c.in-Some.ensures.lookup.3.1 0 in
    first-stop c.args.n c.requires.2 c.args.text.now c.args.at c.requires.1 c.requires.0 (λ l d h g. let q = c.in-Some-digit.ensures.1 in omega (arith, c.if-first-n.false))

pub returns-in_default-digit-2 : goal.returns-in_default-digit-2
returns-in_default-digit-2 c =
    let e = c.in-Some.ensures.lookup.3.1 0 in
    first-stop c.args.n c.requires.2 c.args.text.now c.args.at c.requires.1 c.requires.0 (λ l d h g. let q = c.in_default-digit.ensures (omega arith) in absurd (omega arith))
