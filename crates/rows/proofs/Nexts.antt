-- A next number is put in: the slots, the rows and the earlier next numbers stay.
-- Assumes nothing.
use mathlib.Core.Path.{◌≡◌}
use mathlib.Core.Logic.{◌⊎◌, inl, inr}
use mathlib.Core.List.{List}
use Prim.Native.Nat.{ℕ, ◌+◌, ◌*◌, ◌<◌}
use lib.ListN.{length, set}
use lib.Seq.{get_or-set_same, get_or-set_other}
use native.Mathlib.Omega.{arith}
use Rattle.rows.specs.Area.{slots, most_rows, nexts_at, slot_in, row_in, next_at, next_in, Changed}
use Rattle.rows.specs.Nexts.{NextPut}
use Rattle.rows.proofs.Changes.{changed-none, changed_then, changed-set, word2-before}
use Rattle.rows.proofs.Rows.{row_before}

pub next-put : (l : List ℕ) (i x v : ℕ) → next_at i x < length l → x < 64 → NextPut l i x v (set l (next_at i x) v)
unfolding next_in
next-put l i x v h b =
    record {
      to = next_at i x + 1;
      low =
          changed_then nexts_at (next_at i x + 1) (changed-set l (next_at i x) v) (changed-none nexts_at (next_at i x + 1) (set l (next_at i x) v))
          (omega arith) (omega arith) (omega arith) (omega arith);
      here = get_or-set_same l (next_at i x) v 0 h;
      others = λ j y c q. get_or-set_other l (next_at i x) (next_at j y) v 0 (apart j y c q);
    }
  where
    apart : (j y : ℕ) → y < 64 → (j < i) ⊎ ((j ≡ i) × (y < x)) → ¬ (next_at j y ≡ next_at i x)
    apart j y c (inl q) e = omega arith
    apart j y c (inr (d, q)) e = omega arith

-- bytes from the next numbers on do not matter
module _ {l k : List ℕ} {to : ℕ} (c : Changed nexts_at to l k) where
  pub slot_same : (j : ℕ) → j < slots → slot_in k j ≡ slot_in l j
  unfolding slot_in
  slot_same j h = word2-before c (2 * j) (omega arith)

  pub row_same : (i : ℕ) → i < most_rows → row_in k i ≡ row_in l i
  row_same i h = row_before c i (omega arith)
