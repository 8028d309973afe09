-- `reader::blocks::check_good` meets its contract: the check of the 508 bytes before it.
-- Assumes nothing.
use mathlib.Core.Path.{◌≡◌, ap, ap₂, ◌∙◌}
use Prim.Native.Nat.{ℕ, ◌+◌, ◌-◌, ◌*◌}
use native.Mathlib.Omega.{arith}
use lib.ListN.{take, drop}
use lib.Dec.{eqb}
use Rattle.crc_law.specs.Crc.{crc_of}
use Rattle.file_law.specs.Reading.{check_good}
use Rattle.reader.proofs.blocks.check_good.Goals as goal

pub returns : goal.returns
unfolding check_good
returns c =
    let a = c.args in
    let long : 512 * a.n + 508 - 512 * a.n ≡ 508 = omega arith in
    ap₂ eqb c.four.ensures (c.crc-check.ensures ∙ ap (λ (x : ℕ). crc_of (take x (drop (512 * a.n) a.file.now))) long)
