-- Pieces, blocks and the file of a good text, and how a reading ends.
-- Assumes nothing.
use mathlib.Core.Path.{◌≡◌, refl, sym, ap, ap₂, ◌∙◌, subst}
use mathlib.Core.List.{List, ◌++◌}
use Prim.Native.Nat.{ℕ, ◌+◌, ◌-◌, ◌*◌, ◌/◌, ◌%◌, ◌^◌, ◌≤◌, ◌<◌}
use native.Mathlib.Nat.{mul-le-mul_left}
use native.Mathlib.Numerals.{add-one}
use native.Mathlib.Omega.{arith}
use native.Mathlib.Decide.{ℕ_discrete}
use lib.ListN.{length, get_or, set, take, drop, length-set}
use lib.Pow.{pow_mono}
use lib.Seq.{ext_get_or, get_or-drop, get_or-set_same, get_or-set_other}
use Rattle.file_law.specs.Answer.{gives, refuses}
use Rattle.file_law.specs.Bytes.{low2}
use Rattle.file_law.specs.Table.{Table}
use Rattle.file_law.specs.File.{piece_of, body_of, block_of, block_count, stream_of, file_of, with_block}
use Rattle.file_law.proofs.Patch.{sets-patch}
use Rattle.file_law.proofs.Blocks.{length_piece, piece_at}
use Rattle.file_law.proofs.Lent.{written, written_file}
use Rattle.file_law.proofs.Written.{length_file}
use Rattle.kiss_law.specs.Text.{heading}
use Rattle.kiss_law.specs.Forms.{TextSizes}
use Rattle.kiss_law.specs.Kiss.{table_file, KissReads, laid}
use Rattle.kiss_law.specs.Kiss as kiss
use Rattle.kiss_put.proofs.Puts.{put_part}
use Rattle.kiss_walk.specs.Walk.{GoodText}
use Rattle.kiss_walk.specs.declared.Walked.{Walked}
use Rattle.kiss_read.specs.Cursor.{TextOf, row_words, Ahead, FileIs}
use Rattle.kiss_read.proofs.Words.{length_stream}
use Rattle.kiss_read.proofs.Aheads.{ahead-start}

-- two bytes more of a piece
piece_more : (s p : List ℕ) (w e v : ℕ) → length p ≡ 504 → e < 252 → ((j : ℕ) → j < 2 * e → get_or p j 0 ≡ get_or s (2 * w + j) 0)
    → get_or s (2 * (w + e)) 0 ≡ v % 256 → get_or s (2 * (w + e) + 1) 0 ≡ v / 256 % 256
    → (j : ℕ) → j < 2 * (e + 1) → get_or (set (set p (2 * e) (v % 256)) (2 * e + 1) (v / 256 % 256)) j 0 ≡ get_or s (2 * w + j) 0
piece_more s p w e v l h old lo hi j b = at (ℕ_discrete j (2 * e + 1)) (ℕ_discrete j (2 * e))
  where
    at : Dec (j ≡ 2 * e + 1) → Dec (j ≡ 2 * e) → get_or (set (set p (2 * e) (v % 256)) (2 * e + 1) (v / 256 % 256)) j 0 ≡ get_or s (2 * w + j) 0
    at (yes q) r =
        let z : 2 * (w + e) + 1 ≡ 2 * w + j = omega arith in
        ap (λ (i : ℕ). get_or (set (set p (2 * e) (v % 256)) (2 * e + 1) (v / 256 % 256)) i 0) q
        ∙ get_or-set_same (set p (2 * e) (v % 256)) (2 * e + 1) (v / 256 % 256) 0 (omega (arith, length-set p (2 * e) (v % 256)))
        ∙ sym hi ∙ ap (λ (i : ℕ). get_or s i 0) z
    at (no q) (yes r) =
        let z : 2 * (w + e) ≡ 2 * w + j = omega arith in
        get_or-set_other (set p (2 * e) (v % 256)) (2 * e + 1) j (v / 256 % 256) 0 q
        ∙ ap (λ (i : ℕ). get_or (set p (2 * e) (v % 256)) i 0) r ∙ get_or-set_same p (2 * e) (v % 256) 0 (omega arith)
        ∙ sym lo ∙ ap (λ (i : ℕ). get_or s i 0) z
    at (no q) (no r) =
        get_or-set_other (set p (2 * e) (v % 256)) (2 * e + 1) j (v / 256 % 256) 0 q ∙ get_or-set_other p (2 * e) j (v % 256) 0 r ∙ old j (omega arith)

-- .. put as one part
pub piece_put : (s p x : List ℕ) (w e v : ℕ) → length p ≡ 504 → e < 252 → x ≡ low2 v → ((j : ℕ) → j < 2 * e → get_or p j 0 ≡ get_or s (2 * w + j) 0)
    → get_or s (2 * (w + e)) 0 ≡ v % 256 → get_or s (2 * (w + e) + 1) 0 ≡ v / 256 % 256
    → (j : ℕ) → j < 2 * (e + 1) → get_or (take (2 * e) p ++ (x ++ drop (2 * e + 2 - 2 * e) (drop (2 * e) p))) j 0 ≡ get_or s (2 * w + j) 0
piece_put s p x w e v l h q old lo hi j b =
    let room : 2 * e + 2 ≤ length p = omega arith in
    let stores : take (2 * e) p ++ (x ++ drop (2 * e + 2 - 2 * e) (drop (2 * e) p)) ≡ set (set p (2 * e) (v % 256)) (2 * e + 1) (v / 256 % 256) =
    (put_part p (low2 v) x (2 * e) room q).bytes ∙ sym (sets-patch p (2 * e) (low2 v) room)
    ∙ ap (λ (i : ℕ). set (set p (2 * e) (v % 256)) i (v / 256 % 256)) (sym (add-one (2 * e))) in
    ap (λ (y : List ℕ). get_or y j 0) stores ∙ piece_more s p w e v l h old lo hi j b

-- a block depends on the first 504 bytes of what is left, and on no more
pub block_put : (l p s : List ℕ) (b total : ℕ) → ((j : ℕ) → j < 504 → get_or p j 0 ≡ get_or s (2 * (252 * b) + j) 0) → with_block l b total p ≡ with_block l b total (drop (504 * b) s)
unfolding with_block block_of body_of
block_put l p s b total same = rw piece
  where
    piece : piece_of p ≡ piece_of (drop (504 * b) s)
    piece =
        ext_get_or 0 (piece_of p) (piece_of (drop (504 * b) s)) (length_piece p ∙ sym (length_piece (drop (504 * b) s)))
        (λ i h. let g : i < 504 = omega (arith, length_piece p) in
        let z : 2 * (252 * b) + i ≡ 504 * b + i = omega arith in
        piece_at p i g ∙ same i g ∙ ap (λ (j : ℕ). get_or s j 0) z ∙ sym (get_or-drop (504 * b) s i 0) ∙ sym (piece_at (drop (504 * b) s) i g))

pub written_next : (s l k : List ℕ) (b total : ℕ) → l ≡ written b total s k → with_block l b total (drop (504 * b) s) ≡ written (b + 1) total s k
unfolding written
written_next s l k b total e = ap (λ (x : List ℕ). with_block x b total (drop (504 * b) s)) e ∙ ap (λ (m : ℕ). written m total s k) (sym (add-one b))

pub written_none : (s k : List ℕ) (total : ℕ) → k ≡ written 0 total s k
unfolding written
written_none s k total = refl

-- ---- the whole

module _ (x l : List ℕ) (v : Walked) (width total : ℕ) (g : GoodText x v) (hw : width ≡ 2 ^ v.sizes.inputs + 1) (ht : total ≡ ((2 + v.sizes.states * width) * 2 + 503) / 504) where
  abbrev k : ℕ
  k = v.sizes.inputs

  abbrev o : ℕ
  o = v.sizes.outputs

  abbrev n : ℕ
  n = v.sizes.states

  abbrev t : Table
  t = g.text.table

  abbrev s : List ℕ
  s = stream_of t

  total_is : total ≡ block_count (length s)
  total_is =
      let z : 2 + n * width ≡ 2 + length t.rows * row_words t.inputs = ap₂ (λ (i j : ℕ). 2 + i * j) (sym g.sized.states) (hw ∙ ap (λ (i : ℕ). 2 ^ i + 1) (sym g.sized.inputs)) in
      ht ∙ ap (λ (i : ℕ). (i * 2 + 503) / 504) z ∙ ap (λ (i : ℕ). (i + 503) / 504) (sym (length_stream t g.text.writable.fits))

  length_of_lem : length (table_file t) ≡ 512 * total
  length_of_lem = length_file s ∙ ap (λ (i : ℕ). 512 * i) (sym total_is)

  text_of : TextOf t x k o n
  text_of = record { writable = g.text.writable; is = g.text.is; sized = g.sized }

  start : Ahead t x k o n 0 v.at
  start =
      let i = g.sized.inputs in
      let j = g.sized.outputs in
      let m = g.sized.states in
      subst (λ (a : ℕ). Ahead t x a o n 0 v.at) i (subst (λ (a : ℕ). Ahead t x t.inputs a n 0 v.at) j (subst (λ (a : ℕ). Ahead t x t.inputs t.outputs a 0 v.at) m
      (ahead-start t g.text.writable.fits x v.at g.text.is
      (g.is ∙ ap₂ (λ (a b : ℕ). heading a b n) (sym i) (sym j) ∙ ap (heading t.inputs t.outputs) (sym m)) g.inside)))

  pub too_short : length l < 512 * total → KissReads x l (refuses 12 0) l
  too_short h = kiss.KissReads.twelve g.text (omega (arith, length_of_lem))

  pub all_read : (after : List ℕ) → 512 * total ≤ length l → FileIs x k o n total v.at l after → KissReads x l (gives total) after
  unfolding file_of
  all_read after h f =
      let w : after ≡ written total total s l = f.is t text_of start in
      let y : after ≡ laid (table_file t) l =
      w ∙ ap (λ (i : ℕ). written i i s l) total_is ∙ written_file s l (omega (arith, total_is)) ∙ ap (λ (i : ℕ). table_file t ++ drop i l) (sym (length_file s)) in
      let c : length (table_file t) / 512 ≡ total = omega (arith, length_of_lem) in
      subst (λ (i : ℕ). KissReads x l (gives i) after) c
      (subst (λ (z : List ℕ). KissReads x l (gives (length (table_file t) / 512)) z) (sym y) (kiss.KissReads.made g.text (omega (arith, length_of_lem))))

-- so many words of a table are few
pub words-few : {k o n p : ℕ} → TextSizes k o n → p ≡ 2 ^ k → n * (p + 1) ≤ 16640
words-few {k} {o} {n} {p} z e =
    let b : 2 ^ k ≤ 64 = pow_mono {j = 6} z.most_inputs in
    let q : n * (p + 1) ≤ n * 65 = mul-le-mul_left n (omega (arith, e)) in
    omega (arith, z.most_states)
