-- `writer::fill_block` meets its contract: the stores in turn make the block.
-- Assumes nothing.
use mathlib.Core.Path.{◌≡◌, refl, sym, ap, ◌∙◌}
use mathlib.Core.List.{List, ◌++◌}
use Prim.Native.Nat.{ℕ, ◌+◌, ◌-◌}
use native.Mathlib.Omega.{arith}
use lib.ListN.{length, take, drop, length-take}
use lib.Seq.{drop-drop}
use Rattle.file_law.specs.Bytes.{low2, low4, patch}
use Rattle.file_law.specs.File.{piece_of}
use Rattle.file_law.proofs.Patch.{front, length-patch}
use Rattle.file_law.proofs.Blocks.{built, length_piece}
use Rattle.writer.proofs.fill_block.Goals as goal

-- l with v in the place of the k bytes from `at` on, as a store of a part leaves it
abbrev stored : ℕ → ℕ → List ℕ → List ℕ → List ℕ
stored at k l v = take at l ++ (v ++ drop k (drop at l))

part : (l v w : List ℕ) (at k : ℕ) → v ≡ w → length w ≡ k → stored at k l v ≡ patch l at w
unfolding patch
part l v w at k s e = ap (λ (r : List ℕ). take at l ++ (r ++ drop k (drop at l))) s ∙ ap (λ (r : List ℕ). take at l ++ (w ++ r)) (drop-drop k at l ∙ ap (λ (j : ℕ). drop (at + j) l) (sym e))

module _ (b s₁ s₂ s₃ rest : List ℕ) (num total : ℕ) (l : length b ≡ 512) (e₁ : s₁ ≡ low2 num) (e₂ : s₂ ≡ low2 total) (e₃ : s₃ ≡ piece_of rest) where
  abbrev b₁ : List ℕ
  b₁ = s₁ ++ drop 2 b

  abbrev b₂ : List ℕ
  b₂ = stored 2 2 b₁ s₂

  abbrev b₃ : List ℕ
  b₃ = stored 4 504 b₂ s₃

  p₁ : b₁ ≡ patch b 0 (low2 num)
  p₁ = ap (λ (v : List ℕ). v ++ drop 2 b) e₁ ∙ sym (front b (low2 num))

  p₂ : b₂ ≡ patch b₁ 2 (low2 total)
  p₂ = part b₁ s₂ (low2 total) 2 2 e₂ refl

  p₃ : b₃ ≡ patch b₂ 4 (piece_of rest)
  p₃ = part b₂ s₃ (piece_of rest) 4 504 e₃ (length_piece rest)

  long : length b₃ ≡ 512
  long =
      let l₁ : length b₁ ≡ 512 = ap length p₁ ∙ length-patch b 0 (low2 num) (omega arith) ∙ l in
      let l₂ : length b₂ ≡ 512 = ap length p₂ ∙ length-patch b₁ 2 (low2 total) (omega (arith, l₁)) ∙ l₁ in
      ap length p₃ ∙ length-patch b₂ 4 (piece_of rest) (omega (arith, l₂, length_piece rest)) ∙ l₂

pub slice_bounds-crc-end-2 : goal.slice_bounds-crc-end-2
slice_bounds-crc-end-2 c =
    let a = c.args in
    let l = long a.block.now c.copy_from_slice.new.self c.copy_from_slice-2.new.self c.put_piece.new.piece a.rest.now a.number a.total c.requires
    (c.copy_from_slice.ensures.after ∙ c.to_le_bytes.ensures) (c.copy_from_slice-2.ensures.after ∙ c.to_le_bytes-2.ensures) c.put_piece.ensures in
    simp length-take (omega (arith, l))

pub returns : goal.returns
returns c =
    let a = c.args in
    let b = a.block.now in
    let s₁ = c.copy_from_slice.new.self in
    let s₂ = c.copy_from_slice-2.new.self in
    let s₃ = c.put_piece.new.piece in
    let s₄ = c.copy_from_slice-3.new.self in
    let e₁ = c.copy_from_slice.ensures.after ∙ c.to_le_bytes.ensures in
    let e₂ = c.copy_from_slice-2.ensures.after ∙ c.to_le_bytes-2.ensures in
    let e₄ = c.copy_from_slice-3.ensures.after ∙ c.to_le_bytes-3.ensures in
    let r = a.rest.now in
    let h = c.requires in
    let e₃ = c.put_piece.ensures in
    let m₃ = b₃ b s₁ s₂ s₃ r a.number a.total h e₁ e₂ e₃ in
    let l = long b s₁ s₂ s₃ r a.number a.total h e₁ e₂ e₃ in
    built b (b₁ b s₁ s₂ s₃ r a.number a.total h e₁ e₂ e₃) (b₂ b s₁ s₂ s₃ r a.number a.total h e₁ e₂ e₃) m₃ (stored 508 (length m₃ - 508) m₃ s₄)
    r a.number a.total c.crc-check.result h
    (p₁ b s₁ s₂ s₃ r a.number a.total h e₁ e₂ e₃) (p₂ b s₁ s₂ s₃ r a.number a.total h e₁ e₂ e₃) (p₃ b s₁ s₂ s₃ r a.number a.total h e₁ e₂ e₃) c.crc-check.ensures
    (part m₃ s₄ (low4 c.crc-check.result) 508 (length m₃ - 508) e₄ (omega (arith, l)))
