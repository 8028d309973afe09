-- `words::scan::value` meets its contract: the value so far is that of the digits so far, up to the cap.
-- Assumes nothing.
use mathlib.Core.Path.{refl}
use native.Mathlib.Omega.{arith}
use Rattle.language.specs.Words.{value_from}
use Rattle.words.proofs.Values.{value_more}
use Rattle.words.proofs.scan.value.Goals as goal

pub loop-c-init : goal.loop-c-init
unfolding value_from
loop-c-init c = refl

pub loop-c-preserved : goal.loop-c-preserved
loop-c-preserved c = value_more _ c.loop-c.c-index _ _ (omega arith) c.loop-c.invariant c.one_more-v.ensures
