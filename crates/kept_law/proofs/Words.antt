-- The words of a short text.
-- Assumes nothing.
use mathlib.Core.Bool.{false}
use mathlib.Core.Path.{◌≡◌}
use mathlib.Core.List.{List}
use Prim.Native.Nat.{ℕ, ◌+◌, ◌≤◌}
use native.Mathlib.Omega.{arith}
use lib.Dec.{ltb}
use lib.ListN.{length, take, length-drop}
use borrow.Author.Tests.{ltb-false}
use Rattle.language.specs.Words.{Kind, number, value_of, too_large, kind_of, Word, word_at, Words, words, refused, before, Cut, ends, skips, takes, large, strange, largest_number}
use Rattle.language.specs.Texts.{most_bytes}
use Rattle.kept_law.specs.Kept.{Every, LowWord}

abbrev LowOf : Words → Type 0
LowOf (words ws) = Every LowWord ws
LowOf (refused e) = Unit

put : (w : Word) (q : Words) → LowWord w → LowOf q → LowOf (before w q)
put w (words ws) x y = (x, y)
put w (refused e) x y = tt

small : (k : Kind) (w : List ℕ) → too_large k w ≡ false → k ≡ number → value_of w ≤ largest_number
unfolding too_large
small k w e q = let z : ltb largest_number (value_of w) ≡ false = rw q at e in ltb-false _ _ z

cut_low : {at : ℕ} {l : List ℕ} {r : Words} → Cut at l r → at + length l ≤ most_bytes → LowOf r
cut_low ends h = tt
cut_low (skips e x) h = cut_low x (omega arith)
cut_low {at} (takes {l = l} {q = q} n x f y e) h =
    rw e (put (word_at at (take n l)) q (omega arith, small (kind_of (take n l)) (take n l) f) (cut_low y (omega (arith, x.inside, length-drop n l))))
cut_low (large n x f) h = tt
cut_low (strange b x) h = tt

pub words-low : (s : List ℕ) (ws : List Word) → length s ≤ most_bytes → Cut 0 s (words ws) → Every LowWord ws
words-low s ws h x = cut_low x (omega arith)
