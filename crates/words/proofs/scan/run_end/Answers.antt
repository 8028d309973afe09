-- `words::scan::run_end` meets its contract: the run from `i` ends where the run from `from` does.
-- Assumes nothing.
use mathlib.Core.Bool.{Bool}
use mathlib.Core.List.{List}
use mathlib.Core.Path.{◌≡◌, refl, sym, ◌∙◌}
use Prim.Native.Nat.{ℕ, ◌≤◌, max}
use native.Mathlib.Decide.{dec_le}
use native.Mathlib.Omega.{arith}
use lib.ListN.{length}
use Rattle.language.proofs.ScanLaws.{run_on, run-stops, run_over}
use Rattle.words.specs.Runs.{run_end}
use Rattle.words.proofs.scan.run_end.Goals as goal

-- where no place is left
past : (t : ℕ → ℕ → Bool) (s : List ℕ) (from i : ℕ) → length s ≤ i → from ≤ i → (from ≤ length s → i ≤ length s) → run_end t s i ≡ run_end t s from → max from (length s) ≡ run_end t s from
past t s from i h k l e = go (dec_le from (length s))
  where
    go : Dec (from ≤ length s) → max from (length s) ≡ run_end t s from
    go (yes m) = let q : max from (length s) ≡ i = omega (arith, l m) in q ∙ run_over t s i _ h e
    go (no m) = let q : max from (length s) ≡ from = omega arith in q ∙ run_over t s from _ (omega arith) refl

pub returns-then-not-goes_on : goal.returns-then-not-goes_on
returns-then-not-goes_on g c = λ t u. run-stops t c.args.s.now c.loop-i.i _ (omega arith) (sym (u.told c.loop-i.i _ (omega arith) c.if-not-goes_on.ensures)) (c.loop-i.invariant t u)

pub loop-i-preserved : goal.loop-i-preserved
loop-i-preserved g c = λ t u. run_on t c.args.s.now c.loop-i.i _ (omega arith) (sym (u.told c.loop-i.i _ (omega arith) c.if-not-goes_on.ensures)) (c.loop-i.invariant t u)

pub returns : goal.returns
returns g c = λ t u.
    c.max.ensures ∙ past t c.args.s.now c.args.from c.loop-i.i c.loop-i-test.false c.loop-i.auto.i c.loop-i.auto.i-end (c.loop-i.invariant t u)
