-- `spellings::sign_from` meets its contract: what begins with another byte is left out, and does not fit.
-- Assumes nothing.
use mathlib.Core.Path.{◌∙◌, ap}
use native.Mathlib.Omega.{arith}
use Rattle.spellings.specs.Spelled.{sign_count}
use Rattle.spellings.specs.Search.{found}
use Rattle.spellings.proofs.Fitting.{sign_start, sign_here, sign_on, sign_falls, sign_over}
use Rattle.spellings.proofs.sign_from.Goals as goal

pub loop-k-init : goal.loop-k-init
loop-k-init c = sign_start c.args.s.now c.args.at c.requires.2 c.requires.3

pub returns-then-sign_fits : goal.returns-then-sign_fits
returns-then-sign_fits c =
    sign_here c.args.s.now c.args.at c.requires.2 c.loop-k.invariant (omega arith) c.sign_fits.ensures c.if-sign_fits.true

pub loop-k-smaller : goal.loop-k-smaller
loop-k-smaller c =
    sign_falls c.args.s.now c.args.at c.requires.2 c.loop-k.invariant (omega arith) c.from-k.ensures (c.requires.0.told c.loop-k.k (omega arith))

pub loop-k-preserved : goal.loop-k-preserved
loop-k-preserved c =
    sign_on c.args.s.now c.args.at c.requires.2 c.loop-k.invariant (omega arith) c.from-k.ensures (c.requires.0.told c.loop-k.k (omega arith)) c.sign_fits.ensures c.if-sign_fits.false

pub returns : goal.returns
returns c =
    c.found.ensures ∙ ap (found sign_count) (sign_over c.args.s.now c.args.at c.requires.2 c.loop-k.invariant c.loop-k-test.false)
