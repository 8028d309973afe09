-- What the block writer's promise comes to: a buffer `with_block`. No second buffer meets it, no other byte changes, and the blocks in turn make the file.
-- Assumes nothing.
use mathlib.Core.Path.{◌≡◌, refl, sym, ap, ◌∙◌, subst}
use mathlib.Core.Logic.{◌⊎◌}
use Prim.Native.Nat.{ℕ, zero, suc, ◌+◌, ◌*◌, ◌≤◌, ◌<◌}
use native.Mathlib.Omega.{arith}
use native.Mathlib.Numerals.{add-one}
use mathlib.Core.Bool.{Bool, true, false}
use mathlib.Core.List.{List, ◌++◌}
use lib.ListN.{length, get_or, take, drop, length-append, length-drop}
use lib.Seq.{ext_get_or, get_or-take}
use lib.Dec.{leb}
use borrow.Author.Tests.{leb-true, le-leb, lt-leb}
use Rattle.file_law.specs.Answer.{unless}
use Rattle.file_law.specs.Bytes.{patch}
use Rattle.file_law.specs.File.{piece_of, body_of, block_of, blocks, block_count, file_of, with_block}
use Rattle.file_law.proofs.Patch.{length-patch, patch-outside}
use Rattle.file_law.proofs.Blocks.{length_piece, piece_at, length_block, length-blocks, one_more}

-- ---- one block

module _ (l : List ℕ) (number total : ℕ) (rest : List ℕ) where
  -- "Show that no second answer could satisfy it"
  pub write_only : {x y : List ℕ} → x ≡ with_block l number total rest → y ≡ with_block l number total rest → x ≡ y
  write_only p q = p ∙ sym q

  pub with_room : 512 * number + 512 ≤ length l → with_block l number total rest ≡ patch l (512 * number) (block_of number total rest)
  unfolding with_block
  with_room h = simp (le-leb _ _ h)

  pub without-room : length l < 512 * number + 512 → with_block l number total rest ≡ l
  unfolding with_block
  without-room h = simp (lt-leb _ _ h)

  inside : 512 * number + 512 ≤ length l → 512 * number + length (block_of number total rest) ≤ length l
  inside h = omega (arith, length_block number total rest)

  -- what holds of the buffer as it was, and of the buffer with the block in its place, holds with room and without
  either : (P : List ℕ → Type 0) → P l → (512 * number + 512 ≤ length l → P (patch l (512 * number) (block_of number total rest)))
      → P (with_block l number total rest)
  unfolding with_block
  either P was put = pick (leb (512 * number + 512) (length l)) refl
    where
      pick : (room : Bool) → leb (512 * number + 512) (length l) ≡ room → P (unless room l (patch l (512 * number) (block_of number total rest)))
      pick true e = put (leb-true _ _ e)
      pick false e = was

  pub length_stays : length (with_block l number total rest) ≡ length l
  length_stays = either (λ (x : List ℕ). length x ≡ length l) refl (λ h. length-patch l (512 * number) (block_of number total rest) (inside h))

  -- "Each block is written into its own 512 bytes": every byte before them, and every byte behind them, stays
  pub outside_stays : (k : ℕ) → (k < 512 * number) ⊎ (512 * number + 512 ≤ k) → get_or (with_block l number total rest) k 0 ≡ get_or l k 0
  outside_stays k out =
      either (λ (x : List ℕ). get_or x k 0 ≡ get_or l k 0) refl
      (λ h. patch-outside l (512 * number) (block_of number total rest) k (inside h)
      (subst (λ (n : ℕ). (k < 512 * number) ⊎ (512 * number + n ≤ k)) (sym (length_block number total rest)) out))

  -- one piece of the stream will do for all that is left of it
  pub piece_suffices : with_block l number total (take 504 rest) ≡ with_block l number total rest
  unfolding with_block block_of body_of
  piece_suffices = rw same
    where
      same : piece_of (take 504 rest) ≡ piece_of rest
      same =
          ext_get_or 0 (piece_of (take 504 rest)) (piece_of rest) (length_piece (take 504 rest) ∙ sym (length_piece rest))
          (λ i h. let b : i < 504 = omega (arith, length_piece (take 504 rest)) in
          piece_at (take 504 rest) i b ∙ get_or-take 504 rest i 0 b ∙ sym (piece_at rest i b))

-- ---- the blocks in turn

-- the buffer once blocks 0 to n - 1 are written into it, one after the other, each from what is left of the stream
unfoldable pub written : ℕ → ℕ → List ℕ → List ℕ → List ℕ
written zero total stream l = l
written (suc n) total stream l = with_block (written n total stream l) n total (drop (504 * n) stream)

pub written-blocks : (n total : ℕ) (stream l : List ℕ) → 512 * n ≤ length l → written n total stream l ≡ blocks n total stream ++ drop (512 * n) l
unfolding written blocks
written-blocks zero total stream l h = refl
written-blocks (suc n) total stream l h =
    let rest = drop (504 * n) stream in
    let before = blocks n total stream ++ drop (512 * n) l in
    let long : length before ≡ length l = simp (length-append, length-drop) (omega (arith, length-blocks n total stream)) in
    ap (λ (x : List ℕ). with_block x n total rest) (written-blocks n total stream l (omega arith))
    ∙ with_room before n total rest (omega arith)
    ∙ one_more n total stream l rest (omega arith) refl
    ∙ ap (λ (m : ℕ). blocks m total stream ++ drop (512 * m) l) (add-one n)

-- "bytes past the file stay": all blocks of a stream are its file, with what the buffer has behind it
pub written_file : (stream l : List ℕ) → 512 * block_count (length stream) ≤ length l
    → written (block_count (length stream)) (block_count (length stream)) stream l ≡ file_of stream ++ drop (512 * block_count (length stream)) l
unfolding file_of
written_file stream l h = written-blocks (block_count (length stream)) (block_count (length stream)) stream l h
