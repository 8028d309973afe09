-- `writer::put_piece` meets its contract: the bytes that are there, and zeros behind them.
-- Assumes nothing.
use mathlib.Core.Path.{◌≡◌, sym, ap, ap₂, ◌∙◌}
use mathlib.Core.List.{List, ◌++◌, append-nil}
use Prim.Native.Nat.{ℕ, ◌-◌, ◌<◌, min}
use native.Mathlib.Omega.{arith}
use native.Mathlib.Decide.{dec_lt}
use lib.ListN.{length, get_or, take, drop, replicate, length-append, length-replicate, length-drop, drop_of_length-le, get_or-append, get_or-replicate, get_or-eq_default}
use lib.Seq.{ext_get_or, take_at, get_or-take, get_or-append_right, length-take-le}
use Rattle.file_law.specs.File.{piece_of}
use Rattle.file_law.proofs.Blocks.{length_piece, piece_at}
use Rattle.writer.proofs.put_piece.Goals as goal

abbrev zeros : ℕ → List ℕ
zeros n = replicate n 0

padded : (m : ℕ) (rest : List ℕ) → m ≡ min (length rest) 504 → take m rest ++ zeros (504 - m) ≡ piece_of rest
padded m rest e =
    ext_get_or 0 (take m rest ++ zeros (504 - m)) (piece_of rest) (long ∙ sym (length_piece rest)) (λ i h. at i (omega (arith, long)) (dec_lt i m))
  where
    held : length (take m rest) ≡ m
    held = length-take-le m rest (omega arith)

    long : length (take m rest ++ zeros (504 - m)) ≡ 504
    long = let z : length (zeros (504 - m)) ≡ 504 - m = length-replicate (504 - m) 0 in omega (arith, held, z, length-append (take m rest) (zeros (504 - m)))

    at : (i : ℕ) → i < 504 → Dec (i < m) → get_or (take m rest ++ zeros (504 - m)) i 0 ≡ get_or (piece_of rest) i 0
    at i h (yes b) = get_or-append (take m rest) (zeros (504 - m)) 0 i (omega (arith, held)) ∙ get_or-take m rest i 0 b ∙ sym (piece_at rest i h)
    at i h (no b) =
        get_or-append_right (take m rest) (zeros (504 - m)) i 0 (omega (arith, held))
        ∙ get_or-replicate (504 - m) (i - length (take m rest)) 0 0 (omega (arith, held))
        ∙ sym (piece_at rest i h ∙ get_or-eq_default rest 0 (omega arith))

-- what the two stores leave
stored : (m : ℕ) (p v w : List ℕ) → length p ≡ 504 → length v ≡ m → m ≡ min m 504 → length w ≡ 504 - m
    → take m (v ++ drop m p) ++ (w ++ drop (length (v ++ drop m p) - m) (drop m (v ++ drop m p))) ≡ v ++ w
stored m p v w l e h g =
    let long : length (v ++ drop m p) ≡ 504 = omega (arith, length-append v (drop m p), length-drop m p) in
    ap₂ (λ (a b : List ℕ). a ++ (w ++ b)) (take_at v (drop m p) m e) (drop_of_length-le (drop m (v ++ drop m p)) (omega (arith, long, length-drop m (v ++ drop m p))))
    ∙ ap (λ (a : List ℕ). v ++ a) (append-nil w)

pub returns : goal.returns
returns c =
    let m = c.min-held.result in
    let v = c.copy_from_slice.new.self in
    let w = c.fill.new.self in
    let p = c.args.piece.now in
    let r = c.args.rest.now in
    let e : m ≡ min (length r) 504 = c.min-held.ensures in
    let a : v ≡ take m r = c.copy_from_slice.ensures.after in
    let l : length v ≡ m = ap length a ∙ length-take-le m r (omega arith) in
    let q = v ++ drop m p in
    let k : length q - m ≡ 504 - m = omega (arith, l, length-append v (drop m p), length-drop m p, c.requires) in
    let z : length (take (length q - m) (drop m q)) ≡ 504 - m = length-take-le (length q - m) (drop m q) (omega (arith, length-drop m q)) ∙ k in
    let f : w ≡ zeros (504 - m) = c.fill.ensures.after (λ y h. h) ∙ ap zeros z in
    stored m p v w c.requires l (omega arith) (ap length f ∙ length-replicate (504 - m) 0) ∙ ap₂ ◌++◌ a f ∙ padded m r e
