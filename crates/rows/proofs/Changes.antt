-- What stays when bytes are stored.
-- Assumes nothing.
use mathlib.Core.Path.{◌≡◌, refl, ap, ◌∙◌}
use mathlib.Core.List.{List, ◌++◌}
use mathlib.Core.Logic.{inl, inr}
use Prim.Native.Nat.{ℕ, ◌+◌, ◌-◌, ◌<◌, ◌≤◌}
use lib.ListN.{length, get_or, set, take, drop, length-set, get_or-append}
use lib.Seq.{get_or-set_other, drop-drop, get_or-append-add, length-take-le}
use borrow.Rule.Slice.PartMut.{put_mid}
use native.Mathlib.Omega.{arith}
use Rattle.std.specs.Int.{w16, w32, to_le_bytes}
use Rattle.std.proofs.lemmas.Nat.{from_le_bytes-to_le_bytes_2, from_le_bytes-to_le_bytes_4}
use Rattle.file_law.specs.Bytes.{word2, word4, bytes_of, patch}
use Rattle.file_law.proofs.Patch.{length-patch, patch-outside}
use Rattle.rows.specs.Area.{Changed}

pub changed-none : (from to : ℕ) (l : List ℕ) → Changed from to l l
changed-none from to l = record { long = refl; before = λ j h. refl; behind = λ j h. refl }

pub changed_then : {a b c d : ℕ} (from to : ℕ) {l k m : List ℕ} → Changed a b l k → Changed c d k m → from ≤ a → b ≤ to → from ≤ c → d ≤ to → Changed from to l m
changed_then from to p q h1 h2 h3 h4 =
    record {
      long = q.long ∙ p.long;
      before = λ j h. q.before j (omega arith) ∙ p.before j (omega arith);
      behind = λ j h. q.behind j (omega arith) ∙ p.behind j (omega arith);
    }

pub changed-set : (l : List ℕ) (at x : ℕ) → Changed at (at + 1) l (set l at x)
changed-set l at x =
    record {
      long = length-set l at x;
      before = λ j h. get_or-set_other l at j x 0 (λ e. omega arith);
      behind = λ j h. get_or-set_other l at j x 0 (λ e. omega arith);
    }

module _ {from to : ℕ} {l k : List ℕ} (c : Changed from to l k) (at : ℕ) where
  pub word2-before : at + 2 ≤ from → word2 (bytes_of k) at ≡ word2 (bytes_of l) at
  unfolding word2
  word2-before h = rw (c.before at (omega arith), c.before (at + 1) (omega arith))

  pub word2-behind : to ≤ at → word2 (bytes_of k) at ≡ word2 (bytes_of l) at
  unfolding word2
  word2-behind h = rw (c.behind at (omega arith), c.behind (at + 1) (omega arith))

  pub word4-before : at + 4 ≤ from → word4 (bytes_of k) at ≡ word4 (bytes_of l) at
  unfolding word4
  word4-before h = rw (c.before at (omega arith), c.before (at + 1) (omega arith), c.before (at + 2) (omega arith), c.before (at + 3) (omega arith))

  pub word4-behind : to ≤ at → word4 (bytes_of k) at ≡ word4 (bytes_of l) at
  unfolding word4
  word4-behind h = rw (c.behind at (omega arith), c.behind (at + 1) (omega arith), c.behind (at + 2) (omega arith), c.behind (at + 3) (omega arith))

-- as many bytes put in at `at` as stood there
abbrev put : List ℕ → List ℕ → ℕ → ℕ → List ℕ
put l v at n = put_mid at (at + n - at) l v

module _ (l v : List ℕ) (at n : ℕ) (whole : length v ≡ n) (room : at + n ≤ length l) where
  patched : put l v at n ≡ patch l at v
  unfolding patch
  patched =
      let m : at + n - at ≡ length v = omega arith in
      ap (λ (k : ℕ). take at l ++ (v ++ drop k (drop at l))) m ∙ ap (λ (r : List ℕ). take at l ++ (v ++ r)) (drop-drop (length v) at l)

  pub changed_put : Changed at (at + n) l (put l v at n)
  changed_put =
      record {
        long = rw patched (length-patch l at v (omega arith));
        before = λ j h. rw patched (patch-outside l at v j (omega arith) (inl h));
        behind = λ j h. rw patched (patch-outside l at v j (omega arith) (inr (omega arith)));
      }

  byte_put : (i j : ℕ) → i ≡ at + j → j < n → get_or (put l v at n) i 0 ≡ get_or v j 0
  byte_put i j e h =
      let f : i ≡ length (take at l) + j = omega (arith, length-take-le at l (omega arith)) in
      ap (λ (k : ℕ). get_or (put l v at n) k 0) f
      ∙ get_or-append-add (take at l) (v ++ drop (at + n - at) (drop at l)) j 0
      ∙ get_or-append v (drop (at + n - at) (drop at l)) 0 j (omega arith)

-- .. and the number that they make
pub half_put : (l v : List ℕ) (at x : ℕ) → v ≡ to_le_bytes w16 x → at + 2 ≤ length l → x < 65536
    → Changed at (at + 2) l (put l v at 2) × (word2 (bytes_of (put l v at 2)) at ≡ x)
unfolding word2
half_put l v at x e room h =
    let two : length v ≡ 2 = ap length e in
    (changed_put l v at 2 two room, rw (byte_put l v at 2 two room at 0 (omega arith) (omega arith), byte_put l v at 2 two room (at + 1) 1 refl (omega arith), e) (omega (arith, from_le_bytes-to_le_bytes_2 x h)))

pub full_put : (l v : List ℕ) (at x : ℕ) → v ≡ to_le_bytes w32 x → at + 4 ≤ length l → x < 4294967296
    → Changed at (at + 4) l (put l v at 4) × (word4 (bytes_of (put l v at 4)) at ≡ x)
unfolding word4
full_put l v at x e room h =
    let four : length v ≡ 4 = ap length e in
    let byte : (i j : ℕ) → i ≡ at + j → j < 4 → get_or (put l v at 4) i 0 ≡ get_or v j 0 = byte_put l v at 4 four room in (
      changed_put l v at 4 four room,
      rw (byte at 0 (omega arith) (omega arith), byte (at + 1) 1 refl (omega arith), byte (at + 2) 2 refl (omega arith), byte (at + 3) 3 refl (omega arith), e)
          (omega (arith, from_le_bytes-to_le_bytes_4 x h)),
    )
