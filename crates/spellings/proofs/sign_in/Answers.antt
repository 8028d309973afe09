-- `spellings::sign_in` meets its contract.
-- Assumes nothing.
use mathlib.Core.Path.{◌∙◌, ap}
use Prim.Native.Nat.{ℕ}
use native.Mathlib.Omega.{arith}
use Rattle.spellings.specs.Spelled.{sign_count}
use Rattle.spellings.specs.Search.{like_from}
use Rattle.spellings.proofs.sign_in.Goals as goal

pub returns : goal.returns
returns c =
    let a = c.args in
    c.from-2.ensures ∙ c.requires.0.told c.from.result (omega arith) ∙ ap (λ (x : ℕ). like_from x sign_count 0) (omega (arith, c.requires.1))
