-- A table whose rule is tested at every entry, by one test that antt computes, holds the remainders.
-- Assumes nothing.
use mathlib.Core.Path.{◌≡◌, sym, subst}
use mathlib.Core.Bool.{Bool}
use mathlib.Core.List.{List}
use Prim.Native.Nat.{ℕ, ◌<◌}
use lib.Dec.{T, eqb, eqb→eq}
use lib.ListN.{length, get_or}
use Rattle.crc_law.specs.Crc.{step_bits}
use Rattle.crc_law.proofs.Table.{every, at}
use Rattle.crc.specs.Remainders.{Remainders}

abbrev pub right : ℕ → ℕ → Bool
right n x = eqb x (step_bits 8 n)

pub tested : {t : List ℕ} → length t ≡ 256 → T (every right 0 t) → Remainders t
tested {t} size all =
    record {
      size = size;
      rule = λ n h. eqb→eq (get_or t n 0) (step_bits 8 n) (at right t all n (subst (λ (m : ℕ). n < m) (sym size) h));
    }
