-- What lies beside the tree: nothing there is written, and with the tree it is the area.
-- Assumes nothing.
use mathlib.Core.Bool.{Bool, true, false, cond}
use mathlib.Core.Path.{◌≡◌, refl, sym, ◌∙◌, ap, ap₂}
use mathlib.Core.List.{List, ◌++◌}
use Prim.Native.Nat.{ℕ, ◌+◌, ◌-◌, ◌/◌, ◌%◌, ◌<◌}
use native.Mathlib.Omega.{arith}
use lib.Dec.{ltb, leb}
use lib.ListN.{length, set, take, drop, take-append-drop, length-set, length-drop}
use lib.Seq.{drop-set-lt, take_all}
use borrow.Author.Tests.{ltb-true}
use Rattle.parts.specs.Sum.{put_part, part_at}
use Rattle.parts.specs.Beside.{tree_bytes, Beside, beside}

pub same_size : {a b : Beside} → a ≡ b → a.size ≡ b.size
same_size e = ap (λ (b : Beside). b.size) e

pub set-beside : (t : List ℕ) (i x : ℕ) → i < tree_bytes → beside (set t i x) ≡ beside t
unfolding beside
set-beside t i x h = rw (length-set t i x, drop-set-lt tree_bytes t i x h) refl

-- where it is written, the number fits
pub where_fits : (a b : Bool) (w t : List ℕ) → (a ≡ true → beside w ≡ beside t) → beside (cond a (cond b w t) t) ≡ beside t
where_fits true true w t e = e refl
where_fits true false w t e = refl
where_fits false b w t e = refl

pub put-beside : (t : List ℕ) (i k c p a b : ℕ) → beside (put_part t i k c p a b) ≡ beside t
unfolding put_part
put-beside t i k c p a b =
    where_fits (ltb i 1024) (leb (part_at i + 8) (length t)) _ t
    (λ e. let h : i < 1024 = ltb-true i 1024 e in
    set-beside _ (part_at i + 7) (b / 256) (omega arith) ∙ set-beside _ (part_at i + 6) (b % 256) (omega arith) ∙ set-beside _ (part_at i + 5) (a / 256) (omega arith) ∙ set-beside _ (part_at i + 4) (a % 256) (omega arith)
    ∙ set-beside _ (part_at i + 3) (p / 256) (omega arith) ∙ set-beside _ (part_at i + 2) (p % 256) (omega arith) ∙ set-beside _ (part_at i + 1) c (omega arith) ∙ set-beside t (part_at i) k (omega arith))

-- all that is left of a list
pub whole-rest : (n : ℕ) (l : List ℕ) → take (length l - n) (drop n l) ≡ drop n l
whole-rest n l = take_all (length l - n) (drop n l) (omega (arith, length-drop n l))

-- an area by its tree and what lies behind
pub whole-area : (t : List ℕ) → take tree_bytes t ++ (beside t).names ≡ t
unfolding beside
whole-area t = take-append-drop tree_bytes t

pub same_area : (t t₁ : List ℕ) → take tree_bytes t₁ ≡ take tree_bytes t → beside t₁ ≡ beside t → t₁ ≡ t
same_area t t₁ tree kept = sym (whole-area t₁) ∙ ap₂ ◌++◌ tree (ap (λ (d : Beside). d.names) kept) ∙ whole-area t
