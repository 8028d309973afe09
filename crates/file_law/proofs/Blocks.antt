-- Laws of the pieces and blocks of a written file: their lengths, the stores that make a block, and one block more.
-- Assumes nothing.
use mathlib.Core.Path.{◌≡◌, refl, sym, ap, ap₂, ◌∙◌}
use Prim.Native.Nat.{ℕ, zero, suc, ◌+◌, ◌*◌, ◌≤◌, ◌<◌}
use native.Mathlib.Omega.{arith}
use native.Mathlib.Numerals.{add-one}
use mathlib.Core.List.{List, [], ◌∷◌, ◌++◌, append-nil}
use lib.ListN.{length, get_or, take, drop, replicate, length-append, length-replicate, drop_of_length-le}
use lib.Seq.{take_at, get_or-take, length-take-le}
use Rattle.crc_law.specs.Crc.{crc_of}
use Rattle.file_law.specs.Bytes.{low2, low4, patch}
use Rattle.file_law.specs.File.{piece_of, body_of, block_of, blocks}
use Rattle.file_law.proofs.Patch.{patch-next, front}

pub length_piece : (rest : List ℕ) → length (piece_of rest) ≡ 504
unfolding piece_of
length_piece rest = length-take-le 504 (rest ++ replicate 504 0) (simp (length-append, length-replicate) (omega arith))

pad_at : (rest : List ℕ) (n i : ℕ) → get_or (rest ++ replicate n 0) i 0 ≡ get_or rest i 0
pad_at [] zero i = refl
pad_at [] (suc n) zero = refl
pad_at [] (suc n) (suc i) = pad_at [] n i
pad_at (x ∷ rest) n zero = refl
pad_at (x ∷ rest) n (suc i) = pad_at rest n i

pub piece_at : (rest : List ℕ) (i : ℕ) → i < 504 → get_or (piece_of rest) i 0 ≡ get_or rest i 0
unfolding piece_of
piece_at rest i h = get_or-take 504 (rest ++ replicate 504 0) i 0 h ∙ pad_at rest 504 i

pub length-body : (num total : ℕ) (rest : List ℕ) → length (body_of num total rest) ≡ 508
unfolding body_of
length-body num total rest = omega (arith, length_piece rest)

pub length_block : (num total : ℕ) (rest : List ℕ) → length (block_of num total rest) ≡ 512
unfolding block_of
length_block num total rest = simp length-append (omega (arith, length-body num total rest))

pub length-blocks : (n total : ℕ) (s : List ℕ) → length (blocks n total s) ≡ 512 * n
unfolding blocks
length-blocks zero total s = refl
length-blocks (suc n) total s = simp length-append (omega (arith, length-blocks n total s, length_block n total (drop (504 * n) s)))

-- the stores that make a block
pub built : (B0 B1 B2 B3 B4 rest : List ℕ) (num total x : ℕ) → length B0 ≡ 512 → B1 ≡ patch B0 0 (low2 num) → B2 ≡ patch B1 2 (low2 total)
    → B3 ≡ patch B2 4 (piece_of rest) → x ≡ crc_of (take 508 B3) → B4 ≡ patch B3 508 (low4 x) → B4 ≡ block_of num total rest
unfolding body_of block_of
built B0 B1 B2 B3 B4 rest num total x l p1 p2 p3 px p4 =
    p4
    ∙ ap₂ (λ (b : List ℕ) (y : ℕ). patch b 508 (low4 y)) e3 (px ∙ ap crc_of t)
    ∙ patch-next body B0 (low4 (crc_of body)) 508 (length-body num total rest) (omega arith)
    ∙ ap (λ (r : List ℕ). (body ++ low4 (crc_of body)) ++ r) (drop_of_length-le B0 {i = 512} (omega arith))
    ∙ append-nil (body ++ low4 (crc_of body))
  where
    body : List ℕ
    body = body_of num total rest

    e1 : B1 ≡ low2 num ++ drop 2 B0
    e1 = p1 ∙ front B0 (low2 num)

    e2 : B2 ≡ (low2 num ++ low2 total) ++ drop 4 B0
    e2 = p2 ∙ ap (λ (b : List ℕ). patch b 2 (low2 total)) e1 ∙ patch-next (low2 num) B0 (low2 total) 2 refl (omega arith)

    e3 : B3 ≡ body ++ drop 508 B0
    e3 = p3 ∙ ap (λ (b : List ℕ). patch b 4 (piece_of rest)) e2
        ∙ patch-next (low2 num ++ low2 total) B0 (piece_of rest) 4 refl (omega (arith, length_piece rest))
        ∙ ap (λ (k : ℕ). body ++ drop (4 + k) B0) (length_piece rest)

    t : take 508 B3 ≡ body
    t = ap (take 508) e3 ∙ take_at body (drop 508 B0) 508 (length-body num total rest)

-- one block more
pub one_more : (n total : ℕ) (s f rest : List ℕ) → 512 * n + 512 ≤ length f → rest ≡ drop (504 * n) s
    → patch (blocks n total s ++ drop (512 * n) f) (512 * n) (block_of n total rest) ≡ blocks (n + 1) total s ++ drop (512 * (n + 1)) f
unfolding blocks
one_more n total s f rest h e =
    let l : 512 * n + length (block_of n total rest) ≡ 512 * (n + 1) = omega (arith, length_block n total rest) in
    patch-next (blocks n total s) f (block_of n total rest) (512 * n) (length-blocks n total s) (omega (arith, length_block n total rest))
    ∙ ap₂ (λ (r : List ℕ) (k : ℕ). (blocks n total s ++ block_of n total r) ++ drop k f) e l
    ∙ ap (λ (m : ℕ). blocks m total s ++ drop (512 * (n + 1)) f) (sym (add-one n))
