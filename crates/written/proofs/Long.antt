-- Writing a node keeps the number of bytes.
-- Assumes nothing.
use mathlib.Core.Bool.{Bool, true, false, cond}
use mathlib.Core.Path.{◌≡◌, refl}
use mathlib.Core.List.{List}
use Prim.Native.Nat.{ℕ, ◌+◌, ◌*◌}
use lib.Dec.{ltb, leb}
use lib.ListN.{length, length-set}
use Rattle.items.specs.Walk.{set_half, put_node, put_branch, most_nodes}

pub half_long : (t : List ℕ) (o x : ℕ) → length (set_half t o x) ≡ length t
unfolding set_half
half_long t o x = simp length-set

kept : (a b : Bool) (w t : List ℕ) → length w ≡ length t → length (cond a (cond b w t) t) ≡ length t
kept true true w t e = e
kept true false w t e = refl
kept false b w t e = refl

pub node_long : (t : List ℕ) (i k p e a b c d : ℕ) → length (put_node t i k p e a b c d) ≡ length t
unfolding put_node
node_long t i k p e a b c d = kept (ltb i most_nodes) (leb (i * 16 + 16) (length t)) _ t (simp (half_long, length-set))

pub branch_long : (t : List ℕ) (i a e : ℕ) → length (put_branch t i a e) ≡ length t
unfolding put_branch
branch_long t i a e = kept (ltb i most_nodes) (leb (i * 16 + 16) (length t)) _ t (simp (half_long, length-set))
