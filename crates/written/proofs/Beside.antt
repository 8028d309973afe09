-- A node lies in the tree: nothing beside it is written.
-- Assumes nothing.
use mathlib.Core.Path.{◌≡◌, ◌∙◌}
use mathlib.Core.List.{List}
use Prim.Native.Nat.{ℕ, ◌+◌, ◌*◌, ◌/◌, ◌%◌, ◌<◌}
use native.Mathlib.Omega.{arith}
use lib.Dec.{ltb, leb}
use lib.ListN.{length}
use borrow.Author.Tests.{ltb-true}
use Rattle.parts.specs.Beside.{tree_bytes, beside}
use Rattle.parts.proofs.Beside.{set-beside, where_fits}
use Rattle.items.specs.Walk.{set_half, put_node, put_branch, most_nodes}

half_beside : (t : List ℕ) (o x : ℕ) → o + 1 < tree_bytes → beside (set_half t o x) ≡ beside t
unfolding set_half
half_beside t o x h = set-beside _ (o + 1) (x / 256) h ∙ set-beside t o (x % 256) (omega arith)

pub node_beside : (t : List ℕ) (i k p e a b c d : ℕ) → beside (put_node t i k p e a b c d) ≡ beside t
unfolding put_node
node_beside t i k p e a b c d =
    where_fits (ltb i most_nodes) (leb (i * 16 + 16) (length t)) _ t
    (λ z. let h : i < most_nodes = ltb-true i most_nodes z in
    half_beside _ (i * 16 + 14) d (omega arith) ∙ half_beside _ (i * 16 + 12) c (omega arith) ∙ half_beside _ (i * 16 + 10) b (omega arith) ∙ half_beside _ (i * 16 + 8) a (omega arith)
    ∙ half_beside _ (i * 16 + 4) e (omega arith) ∙ half_beside _ (i * 16 + 2) p (omega arith) ∙ set-beside t (i * 16) k (omega arith))

pub branch_beside : (t : List ℕ) (i a e : ℕ) → beside (put_branch t i a e) ≡ beside t
unfolding put_branch
branch_beside t i a e =
    where_fits (ltb i most_nodes) (leb (i * 16 + 16) (length t)) _ t
    (λ z. let h : i < most_nodes = ltb-true i most_nodes z in half_beside _ (i * 16 + 6) e (omega arith) ∙ set-beside t (i * 16 + 1) a (omega arith))
