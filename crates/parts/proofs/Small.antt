-- Small laws for the leaves.
-- Assumes nothing.
use mathlib.Core.Bool.{Bool, true, false, cond}
use mathlib.Core.Path.{◌≡◌, refl}
use mathlib.Core.List.{List}
use Prim.Native.Nat.{ℕ, ◌+◌, ◌*◌, ◌/◌, ◌%◌}
use lib.Dec.{ltb, leb}
use lib.ListN.{length, set, length-set}
use Rattle.parts.specs.Sum.{put_part, part_at}

pub put-length : (t : List ℕ) (i k c p a b : ℕ) → length (put_part t i k c p a b) ≡ length t
unfolding put_part
put-length t i k c p a b = go (ltb i 1024) (leb (part_at i + 8) (length t))
  where
    w : List ℕ
    w = set (set (set (set (set (set (set (set t (part_at i) k) (part_at i + 1) c) (part_at i + 2) (p % 256)) (part_at i + 3) (p / 256)) (part_at i + 4) (a % 256)) (part_at i + 5) (a / 256)) (part_at i + 6) (b % 256)) (part_at i + 7) (b / 256)

    go : (x y : Bool) → length (cond x (cond y w t) t) ≡ length t
    go true true = simp length-set
    go true false = refl
    go false y = refl
