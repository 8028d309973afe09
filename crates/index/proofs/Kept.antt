-- The index where bytes change behind it, and where it is emptied.
-- Assumes nothing.
use mathlib.Core.Path.{◌≡◌, sym, ap, ◌∙◌}
use mathlib.Core.List.{List, ◌++◌}
use Prim.Native.Nat.{ℕ, ◌+◌, ◌*◌, ◌<◌, ◌≤◌}
use lib.ListN.{length, get_or, take, drop, replicate, length-append, length-drop, length-replicate, get_or-append, get_or-replicate}
use lib.Seq.{length-take-le}
use native.Mathlib.Omega.{arith}
use Rattle.file_law.specs.Bytes.{word2}
use Rattle.rows.specs.Area.{slots, nexts_at, slot_in, hash_of, Changed}
use Rattle.rows.proofs.Nexts.{slot_same, row_same}
use Rattle.index.specs.Indexed.{Stands, Indexed}

-- bytes from the next numbers on do not matter
module _ {l k : List ℕ} {to : ℕ} (c : Changed nexts_at to l k) where
  stands_same : {h g i : ℕ} → h ≡ g → Stands l h i → Stands k g i
  stands_same e t =
      record {
        at = t.at;
        from = omega (arith, t.from);
        inside = t.inside;
        here = slot_same c t.at t.inside ∙ t.here;
        filled = λ j p q z. t.filled j (omega arith) q (sym (slot_same c j (omega (arith, t.inside))) ∙ z);
      }

  pub indexed-same : {n : ℕ} → Indexed l n → Indexed k n
  indexed-same x =
      record {
        long = omega (arith, c.long, x.long);
        few = x.few;
        clear = λ j h b. slot_same c j b ∙ x.clear j h b;
        sound = λ j b. omega (arith, slot_same c j b, x.sound j b);
        whole = λ i h. stands_same (ap hash_of (sym (row_same c i (omega (arith, x.few))))) (x.whole i h);
      }

-- ---- the index, emptied

slot_zero : (l : List ℕ) (j : ℕ) → get_or l (2 * j) 0 ≡ 0 → get_or l (2 * j + 1) 0 ≡ 0 → slot_in l j ≡ 0
unfolding slot_in word2
slot_zero l j p q = rw (p, q)

-- the first 2,560 bytes are z now
pub no_index : (l z : List ℕ) → nexts_at ≤ length l → z ≡ replicate (length (take 2560 l)) 0 → Indexed (z ++ drop 2560 l) 0 × (length (z ++ drop 2560 l) ≡ length l)
no_index l z h e = (
  record {
    long = omega (arith, same);
    few = omega arith;
    clear = λ j k b. empty j b;
    sound = λ j b. omega (arith, empty j b);
    whole = λ i k. absurd (omega arith);
  },
  same,
)
  where
    long : length z ≡ 2560
    long = ap length e ∙ length-replicate (length (take 2560 l)) 0 ∙ length-take-le 2560 l (omega arith)

    same : length (z ++ drop 2560 l) ≡ length l
    same = simp (length-append, length-drop) (omega (arith, long))

    zero : (i : ℕ) → i < 2560 → get_or (z ++ drop 2560 l) i 0 ≡ 0
    zero i b =
        get_or-append z (drop 2560 l) 0 i (omega (arith, long)) ∙ ap (λ (x : List ℕ). get_or x i 0) e
        ∙ get_or-replicate (length (take 2560 l)) i 0 0 (omega (arith, length-take-le 2560 l (omega arith)))

    empty : (j : ℕ) → j < slots → slot_in (z ++ drop 2560 l) j ≡ 0
    empty j b = slot_zero (z ++ drop 2560 l) j (zero (2 * j) (omega arith)) (zero (2 * j + 1) (omega arith))
