-- What the table holds. Document 01: "The check's table of 256 entries is a constant whose rule holds at every entry."
-- Assumes nothing.
use Rattle.std.specs.Prelude.{◌≡◌, List, ℕ, ◌<◌, length, get_or}
use Rattle.crc_law.specs.Crc.{step_bits}

-- 256 entries, and at each the register after eight steps from its number
pub record Remainders (t : List ℕ) : Type 0 where
  pub size : length t ≡ 256
  pub rule : (n : ℕ) → n < 256 → get_or t n 0 ≡ step_bits 8 n
