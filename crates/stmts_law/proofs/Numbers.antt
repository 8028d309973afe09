-- From a number of nodes on over so many more, at most 512: one more, one part after another.
-- Assumes nothing.
use mathlib.Core.Bool.{Bool, true, false, cond}
use mathlib.Core.Path.{◌≡◌, refl}
use mathlib.Core.List.{List, ◌++◌}
use Prim.Native.Nat.{ℕ, suc, ◌+◌, ◌≤◌, min}
use native.Mathlib.Omega.{arith}
use lib.Dec.{ltb, leb}
use lib.ListN.{length, length-append}
use borrow.Author.Tests.{ltb-true, ltb-false}
use Rattle.meaning.specs.Items.{Item}
use Rattle.meaning.specs.Sizes.{most_delay}
use Rattle.meaning.specs.States.{most_activities}
use Rattle.items.specs.declared.Marks.{Marks}
use Rattle.items.specs.Walk.{more, with_acts, with_notes, delayed, together}

either : (b : Bool) (m k : Marks) → k.nodes ≡ m.nodes → (cond b m k).nodes ≡ m.nodes
either true m k e = refl
either false m k e = e

pub delayed_nodes : (m : Marks) (n p : ℕ) → (delayed m n p).nodes ≡ m.nodes
unfolding delayed with_notes
delayed_nodes m n p = either (leb n most_delay) m _ refl

pub together_nodes : (m : Marks) (a p : ℕ) → (together m a p).nodes ≡ m.nodes
unfolding together with_acts with_notes
together_nodes m a p = either (leb m.acts most_activities) m _ refl

-- from n on, over so many
pub record Past (n k r : ℕ) : Type 0 where
  pub is : r ≡ min 512 (n + k)

pub low : (n k r : ℕ) → Past n k r → r ≤ 512
low n k r x = omega (arith, x.is)

pub one : (n : ℕ) → n ≤ 512 → Past n 1 (more n)
unfolding more
one n h = record { is = go (ltb n 512) refl }
  where
    go : (b : Bool) → ltb n 512 ≡ b → cond b (n + 1) n ≡ min 512 (n + 1)
    go true e = let k = ltb-true n 512 e in omega arith
    go false e = let k = ltb-false n 512 e in omega arith

pub over : (n k j r q : ℕ) → Past n k r → Past r j q → Past n (k + j) q
over n k j r q x y = record { is = omega (arith, x.is, y.is) }

pub first : (n k r q : ℕ) → Past n 1 r → Past r k q → Past n (suc k) q
first n k r q x y = record { is = omega (arith, x.is, y.is) }

pub stay : (n : ℕ) → n ≤ 512 → Past n 0 n
stay n h = record { is = omega arith }

pub all_of : (n q : ℕ) (a b : List Item) → Past n (length a + length b) q → Past n (length (a ++ b)) q
all_of n q a b x = rw (length-append a b) x
