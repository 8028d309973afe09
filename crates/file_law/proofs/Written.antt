-- A written file, read: each block has the right number, total and check, and the stream comes back.
-- Assumes nothing.
use mathlib.Core.Path.{◌≡◌, sym, ap, ◌∙◌, fun_ext}
use Prim.Native.Nat.{ℕ, zero, suc, ◌+◌, ◌*◌, ◌/◌, ◌%◌, ◌≤◌, ◌<◌}
use native.Mathlib.Omega.{arith}
use native.Mathlib.Decide.{dec_lt}
use mathlib.Core.Bool.{true}
use mathlib.Core.List.{List, [], ◌++◌, append_assoc, append-nil}
use lib.ListN.{length, get_or, take, drop, get_or-append, get_or-eq_default}
use lib.Seq.{get_or-drop, drop_at, drop-drop, take_at}
use Rattle.crc_law.specs.Crc.{crc_of}
use Rattle.crc_law.proofs.Range.{crc_lt}
use Rattle.file_law.specs.Bytes.{low2, low4, bytes_of}
use Rattle.file_law.specs.File.{piece_of, body_of, block_of, blocks, block_count, file_of}
use Rattle.file_law.specs.Reading.{block_good, place, stream_in}
use Rattle.file_law.proofs.Tests.{block_good_lem}
use Rattle.file_law.proofs.Blocks.{length_piece, piece_at, length-body, length-blocks}
use Rattle.file_law.proofs.Words.{word2-ahead, word4-ahead}

-- the rest of the file from block n on begins with block n
starts : (N T n : ℕ) (s x : List ℕ) → n < N → (y : List ℕ) × (drop (512 * n) (blocks N T s ++ x) ≡ block_of n T (drop (504 * n) s) ++ y)
unfolding blocks
starts zero T n s x h = absurd (omega arith)
starts (suc N) T n s x h = at (dec_lt n N) (starts N T n s)
  where
    B : List ℕ
    B = block_of N T (drop (504 * N) s)

    at : Dec (n < N) → ((z : List ℕ) → n < N → (y : List ℕ) × (drop (512 * n) (blocks N T s ++ z) ≡ block_of n T (drop (504 * n) s) ++ y))
        → (y : List ℕ) × (drop (512 * n) ((blocks N T s ++ B) ++ x) ≡ block_of n T (drop (504 * n) s) ++ y)
    at (yes b) ih =
        let r = ih (B ++ x) b in
        (r.0, ap (drop (512 * n)) (append_assoc (blocks N T s) B x) ∙ r.1)
    at (no b) ih =
        let e : n ≡ N = omega arith in (
          x,
          ap (drop (512 * n)) (append_assoc (blocks N T s) B x)
              ∙ drop_at (blocks N T s) (B ++ x) (512 * n) (length-blocks N T s ∙ ap (λ (k : ℕ). 512 * k) (sym e))
              ∙ ap (λ (k : ℕ). block_of k T (drop (504 * k) s) ++ x) (sym e),
        )

module _ (s : List ℕ) where
  abbrev total : ℕ
  total = block_count (length s)

  abbrev f : List ℕ
  f = file_of s

  pub length_file : length f ≡ 512 * total
  unfolding file_of
  length_file = length-blocks total total s

  module _ (n : ℕ) (h : n < total) where
    abbrev rest : List ℕ
    rest = drop (504 * n) s

    abbrev body : List ℕ
    body = body_of n total rest

    abbrev y : List ℕ
    y = (starts total total n s [] h).0

    from : drop (512 * n) f ≡ block_of n total rest ++ y
    unfolding file_of
    from = ap (drop (512 * n)) (sym (append-nil f)) ∙ (starts total total n s [] h).1

    -- the piece, past number and total
    piece : drop (512 * n + 4) f ≡ piece_of rest ++ (low4 (crc_of body) ++ y)
    unfolding block_of body_of
    piece = sym (drop-drop 4 (512 * n) f) ∙ ap (drop 4) from ∙ append_assoc (piece_of rest) (low4 (crc_of body)) y

    -- .. and the check behind it
    check : drop (512 * n + 508) f ≡ low4 (crc_of body) ++ y
    unfolding block_of
    check =
        sym (drop-drop 508 (512 * n) f) ∙ ap (drop 508) (from ∙ append_assoc body (low4 (crc_of body)) y)
        ∙ drop_at body (low4 (crc_of body) ++ y) 508 (length-body n total rest)

    over : take 508 (drop (512 * n) f) ≡ body
    unfolding block_of
    over =
        ap (take 508) (from ∙ append_assoc body (low4 (crc_of body)) y)
        ∙ take_at body (low4 (crc_of body) ++ y) 508 (length-body n total rest)

    stream_byte : (i : ℕ) → i < 504 → get_or f (512 * n + 4 + i) 0 ≡ get_or s (504 * n + i) 0
    stream_byte i b =
        sym (get_or-drop (512 * n + 4) f i 0) ∙ ap (λ (l : List ℕ). get_or l i 0) piece
        ∙ get_or-append (piece_of rest) (low4 (crc_of body) ++ y) 0 i (omega (arith, length_piece rest))
        ∙ piece_at rest i b ∙ get_or-drop (504 * n) s i 0

    -- number and total are two bytes each
    pub good : total ≤ 65535 → block_good f total n ≡ true
    unfolding block_of body_of
    good few =
        let x = (piece_of rest ++ low4 (crc_of body)) ++ y in
        block_good_lem f total n (record {
          numbered = record {
            number = word2-ahead f (512 * n) n (low2 total ++ x) from (omega arith);
            count = word2-ahead f (512 * n + 2) total x (sym (drop-drop 2 (512 * n) f) ∙ ap (drop 2) from) (omega arith);
          };
          checked = word4-ahead f (512 * n + 508) (crc_of body) y check (crc_lt body) ∙ ap crc_of (sym over);
        })

  -- no bound on the stream is needed
  pub stream_back : stream_in f ≡ bytes_of s
  unfolding stream_in
  stream_back = fun_ext (λ j. at j (dec_lt (j / 504) total))
    where
      at : (j : ℕ) → Dec (j / 504 < total) → get_or f (place j) 0 ≡ get_or s j 0
      at j (yes h) =
          let e : 504 * (j / 504) + j % 504 ≡ j = omega arith in
          stream_byte (j / 504) h (j % 504) (omega arith) ∙ ap (bytes_of s) e
      at j (no h) = get_or-eq_default f 0 (omega (arith, length_file)) ∙ sym (get_or-eq_default s 0 (omega arith))
