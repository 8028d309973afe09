-- What a written node holds, and that no other byte is written.
-- Assumes nothing.
use mathlib.Core.Path.{◌≡◌, refl, ◌∙◌, ap}
use mathlib.Core.List.{List}
use Prim.Native.Nat.{ℕ, ◌+◌, ◌*◌, ◌%◌, ◌≤◌, ◌<◌}
use native.Mathlib.Omega.{arith}
use lib.ListN.{length, get_or}
use Rattle.nodes.specs.Layout.{half_at}
use Rattle.items.specs.Walk.{put_node, put_branch}
use Rattle.written.proofs.Long.{node_long, branch_long}
use Rattle.tree_law.proofs.Wrote.{node_is, node_kind, node_place, node_end, node_first, node_second, node_third, node_inputs, node_fourth, node_kept, branch_is, branch_width, branch_end, branch_kept, branch_others}
use Rattle.tree_law.proofs.Same.{Grown, Whole, Most}

-- node i: kind, place, end, four numbers, and the low byte of the third
pub record Holds (u : List ℕ) (i k p e a b c d : ℕ) : Type 0 where
  pub kind : get_or u (i * 16) 0 ≡ k
  pub place : half_at u (i * 16 + 2) ≡ p
  pub ends : half_at u (i * 16 + 4) ≡ e
  pub first : half_at u (i * 16 + 8) ≡ a
  pub second : half_at u (i * 16 + 10) ≡ b
  pub third : half_at u (i * 16 + 12) ≡ c
  pub inputs : get_or u (i * 16 + 12) 0 ≡ c % 256
  pub fourth : half_at u (i * 16 + 14) ≡ d

fits : (i : ℕ) (t : List ℕ) → i < 512 → 8192 ≤ length t → i * 16 + 16 ≤ length t
fits i t h l = omega arith

halves : (u t : List ℕ) (o : ℕ) → get_or u o 0 ≡ get_or t o 0 → get_or u (o + 1) 0 ≡ get_or t (o + 1) 0 → half_at u o ≡ half_at t o
unfolding half_at
halves u t o x y = rw (x, y) refl

module _ (t : List ℕ) (i k p e a b c d : ℕ) (room : i < 512) (long : 8192 ≤ length t) where
  abbrev N : List ℕ
  N = put_node t i k p e a b c d

  pub holds : {u : List ℕ} {j x y : ℕ} → i < j → Most u N i j x y → Holds u i k p e a b c d
  holds {u} {j} {x} {y} h m =
      let w = node_is t i k p e a b c d (fits i t room long) room in
      let byte : (q : ℕ) → i * 16 ≤ q → q < i * 16 + 16 → ¬ (q ≡ i * 16 + 1) → ¬ (q ≡ i * 16 + 6) → ¬ (q ≡ i * 16 + 7) → get_or u q 0 ≡ get_or N q 0 = λ q f g z o r. m.nodes q f (omega arith) z o r in
      let half : (q : ℕ) → i * 16 + 2 ≤ q → q < i * 16 + 15 → ¬ (q ≡ i * 16 + 5) → ¬ (q ≡ i * 16 + 6) → ¬ (q ≡ i * 16 + 7) → half_at u q ≡ half_at N q =
      λ q f g z o r. halves u N q (byte q (omega arith) (omega arith) (λ s. omega arith) o r) (byte (q + 1) (omega arith) (omega arith) (λ s. omega arith) (λ s. omega arith) (λ s. omega arith)) in
      record {
        kind = byte (i * 16) (omega arith) (omega arith) (λ s. omega arith) (λ s. omega arith) (λ s. omega arith) ∙ ap (λ (l : List ℕ). get_or l (i * 16) 0) w ∙ node_kind t i k p e a b c d (fits i t room long);
        place = half (i * 16 + 2) (omega arith) (omega arith) (λ s. omega arith) (λ s. omega arith) (λ s. omega arith) ∙ ap (λ (l : List ℕ). half_at l (i * 16 + 2)) w ∙ node_place t i k p e a b c d (fits i t room long);
        ends = half (i * 16 + 4) (omega arith) (omega arith) (λ s. omega arith) (λ s. omega arith) (λ s. omega arith) ∙ ap (λ (l : List ℕ). half_at l (i * 16 + 4)) w ∙ node_end t i k p e a b c d (fits i t room long);
        first = half (i * 16 + 8) (omega arith) (omega arith) (λ s. omega arith) (λ s. omega arith) (λ s. omega arith) ∙ ap (λ (l : List ℕ). half_at l (i * 16 + 8)) w ∙ node_first t i k p e a b c d (fits i t room long);
        second = half (i * 16 + 10) (omega arith) (omega arith) (λ s. omega arith) (λ s. omega arith) (λ s. omega arith) ∙ ap (λ (l : List ℕ). half_at l (i * 16 + 10)) w ∙ node_second t i k p e a b c d (fits i t room long);
        third = half (i * 16 + 12) (omega arith) (omega arith) (λ s. omega arith) (λ s. omega arith) (λ s. omega arith) ∙ ap (λ (l : List ℕ). half_at l (i * 16 + 12)) w ∙ node_third t i k p e a b c d (fits i t room long);
        inputs = byte (i * 16 + 12) (omega arith) (omega arith) (λ s. omega arith) (λ s. omega arith) (λ s. omega arith) ∙ ap (λ (l : List ℕ). get_or l (i * 16 + 12) 0) w ∙ node_inputs t i k p e a b c d (fits i t room long);
        fourth = half (i * 16 + 14) (omega arith) (omega arith) (λ s. omega arith) (λ s. omega arith) (λ s. omega arith) ∙ ap (λ (l : List ℕ). half_at l (i * 16 + 14)) w ∙ node_fourth t i k p e a b c d (fits i t room long);
      }

  far : (q : ℕ) → ((x : ℕ) → i * 16 ≤ x → x < i * 16 + 16 → ¬ (q ≡ x)) → get_or N q 0 ≡ get_or t q 0
  far q f = ap (λ (l : List ℕ). get_or l q 0) (node_is t i k p e a b c d (fits i t room long) room) ∙ node_kept t i k p e a b c d (fits i t room long) q f

  pub node_grown : (x y : ℕ) → Grown i (i + 1) x y t N
  node_grown x y =
      record {
        long = node_long t i k p e a b c d;
        low = λ q h. far q (λ z f g s. omega arith);
        middle = λ q h l. far q (λ z f g s. omega arith);
        high = λ q h. far q (λ z f g s. omega arith);
      }

-- the branch that begins with node i
module _ (t : List ℕ) (i a e : ℕ) (room : i < 512) (long : 8192 ≤ length t) where
  abbrev B : List ℕ
  B = put_branch t i a e

  clear : (q : ℕ) → ((x : ℕ) → i * 16 ≤ x → x < i * 16 + 16 → ¬ (q ≡ x)) → get_or B q 0 ≡ get_or t q 0
  clear q f = ap (λ (l : List ℕ). get_or l q 0) (branch_is t i a e (fits i t room long) room) ∙ branch_kept t i a e (fits i t room long) q f

  pub branch_grown : (x y : ℕ) → Grown i (i + 1) x y t B
  branch_grown x y =
      record {
        long = branch_long t i a e;
        low = λ q h. clear q (λ z f g s. omega arith);
        middle = λ q h l. clear q (λ z f g s. omega arith);
        high = λ q h. clear q (λ z f g s. omega arith);
      }

  module _ {u : List ℕ} {j x y : ℕ} (h : i < j) (w : Whole u B i j x y) where
    pub width-held : get_or u (i * 16 + 1) 0 ≡ a
    width-held = w.nodes (i * 16 + 1) (omega arith) (omega arith) ∙ ap (λ (l : List ℕ). get_or l (i * 16 + 1) 0) (branch_is t i a e (fits i t room long) room) ∙ branch_width t i a e (fits i t room long)

    pub branch_held : half_at u (i * 16 + 6) ≡ e
    branch_held = halves u B (i * 16 + 6) (w.nodes (i * 16 + 6) (omega arith) (omega arith)) (w.nodes (i * 16 + 6 + 1) (omega arith) (omega arith)) ∙ ap (λ (l : List ℕ). half_at l (i * 16 + 6)) (branch_is t i a e (fits i t room long) room) ∙ branch_end t i a e (fits i t room long)

    -- everything else stands as before
    pub before_branch : Most u t i j x y
    before_branch =
        record {
          nodes = λ q f g k l m. w.nodes q f g ∙ ap (λ (l : List ℕ). get_or l q 0) (branch_is t i a e (fits i t room long) room) ∙ branch_others t i a e (fits i t room long) q k l m;
          parts = λ q f g. w.parts q f g ∙ (branch_grown x x).high q f;
        }
