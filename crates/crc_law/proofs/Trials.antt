-- Published checks on the definitions, each computed: another polynomial, start, end or order of bits or bytes is refused here.
-- Assumes nothing.
use mathlib.Core.Path.{◌≡◌, refl}
use mathlib.Core.List.{List, [], ◌∷◌, ◌++◌}
use Prim.Native.Nat.{ℕ}
use lib.ListN.{replicate}
use Rattle.crc_law.specs.Crc.{step_bit, step_bits, step_byte, register, crc_of, le_value, Checked}

-- "123456789"
abbrev digits : List ℕ
digits = 49 ∷ 50 ∷ 51 ∷ 52 ∷ 53 ∷ 54 ∷ 55 ∷ 56 ∷ 57 ∷ []

pub record Trials : Type 0 where
  pub check_value : crc_of digits ≡ 0xCBF43926
  pub empty : crc_of [] ≡ 0
  pub letter_a : crc_of (97 ∷ []) ≡ 0xE8B7BE43
  pub letters_abc : crc_of (97 ∷ 98 ∷ 99 ∷ []) ≡ 0x352441C2
  pub four-zeros : crc_of (replicate 4 0) ≡ 0x2144DF1C
  pub four-ones : crc_of (replicate 4 255) ≡ 0xFFFFFFFF
  pub low_first : le_value (0x26 ∷ 0x39 ∷ 0xF4 ∷ 0xCB ∷ []) ≡ 0xCBF43926
  pub carried : Checked 9 (digits ++ (0x26 ∷ 0x39 ∷ 0xF4 ∷ 0xCB ∷ []))

pub trials : Trials
unfolding step_bit step_bits step_byte register crc_of le_value
trials =
    record {
      check_value = refl;
      empty = refl;
      letter_a = refl;
      letters_abc = refl;
      four-zeros = refl;
      four-ones = refl;
      low_first = refl;
      carried = refl;
    }
