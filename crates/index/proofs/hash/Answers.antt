use native.Mathlib.Omega.{arith}
use Prim.Native.Nat.{ℕ, ◌*◌}
use mathlib.Core.Path.{ap, ◌∙◌}
use Rattle.rows.specs.Area.{hash_of}
use Rattle.index.proofs.hash.Goals as goal

pub returns : goal.returns
unfolding hash_of
returns c = let e5 = c.scaled-5.ensures.0 ∙ ap (λ (x : ℕ). x * 60493) c.from-2.ensures in
    let e6 = c.scaled-6.ensures.0 ∙ ap (λ (x : ℕ). x * 35969) c.from-3.ensures in
    (rw (c.from.ensures, c.scaled.ensures.0, c.scaled-2.ensures.0, c.scaled-3.ensures.0, c.scaled-4.ensures.0, e5, e6), omega arith)
