-- `crc::next` meets its contract: eight steps at once, by the table's entry and a shift.
-- Assumes nothing.
use mathlib.Core.Path.{sym, ap, ◌∙◌}
use Prim.Native.Nat.{ℕ, ◌/◌, ◌%◌}
use native.Mathlib.Omega.{arith}
use lib.Bits.{bit_xor}
use Rattle.crc_law.specs.Crc.{step_bits, step_byte}
use Rattle.crc_law.proofs.Step.{step_bits-split}
use Rattle.crc.proofs.next.Goals as goal

pub returns : goal.returns
unfolding step_byte
returns c =
    let x = bit_xor c.args.r c.from.result in
    ap (λ (y : ℕ). bit_xor y (x / 256)) (c.requires.rule (x % 256) (omega arith)) ∙ sym (step_bits-split 8 x)
    ∙ ap (λ (b : ℕ). step_bits 8 (bit_xor c.args.r b)) c.from.ensures
