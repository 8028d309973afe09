-- `words::sign_at` meets its contract.
-- Assumes nothing.
use mathlib.Core.Path.{ap}
use Prim.Native.Nat.{ℕ, ◌+◌}
use native.Mathlib.Omega.{arith}
use Rattle.words.proofs.SignLaws.{sign-inside, sign-here, no_sign}
use Rattle.words.proofs.sign_at.Goals as goal

pub returns-in_default : goal.returns-in_default
returns-in_default c = no_sign c.args.s.now c.args.at c.requires.0 c.requires.1 c.requires.2 c.in_default.ensures

pub overflow_add-result-2 : goal.overflow_add-result-2
overflow_add-result-2 c =
    let a = c.args in
    omega (arith, sign-inside a.s.now a.at c.requires.0 c.requires.1 c.requires.2 c.in-Some.ensures, c.sign_length.ensures)

pub returns : goal.returns
returns c =
    let a = c.args in
    sign-here a.s.now a.at c.requires.0 c.requires.1 c.requires.2 c.in-Some.ensures _ (ap (λ (n : ℕ). a.at + n) c.sign_length.ensures)
