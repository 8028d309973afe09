-- Pieces put one behind the other.
-- Assumes nothing.
use mathlib.Core.Path.{◌≡◌, refl, sym, ap, ap₂, ◌∙◌, subst}
use mathlib.Core.List.{List, [], ◌∷◌, ◌++◌, append_assoc, append-nil}
use Prim.Native.Nat.{ℕ, suc, ◌+◌, ◌-◌, ◌*◌, ◌/◌, ◌%◌, ◌^◌, ◌≤◌, ◌<◌}
use native.Mathlib.Nat.{suc-mul}
use native.Mathlib.Omega.{arith}
use lib.ListN.{length, set, take, drop, length-append, length-set, take-append-drop}
use Rattle.file_law.specs.Bytes.{patch}
use Rattle.file_law.proofs.Patch.{sets-patch, patch-both, length-patch}
use lib.Seq.{drop-drop}
use lib.Pow.{shr-shr}
use Rattle.file_law.specs.Answer.{listed}
use Rattle.kiss_law.specs.Text.{ascii, decimal, bits, size_line, row_head, row_tail, state_rows}
use Rattle.kiss_law.proofs.Decimal.{few, many, fuel, length-decimal}
use Rattle.kiss_law.proofs.Bits.{bit_at, bits-more, length-bits}
use Rattle.kiss_put.specs.Put.{Put, Under}

pub put_one : (l : List ℕ) (at b : ℕ) → at + 1 ≤ length l → Put l at (b ∷ []) (at + 1) (set l at b)
put_one l at b h = record { end = refl; bytes = sets-patch l at (b ∷ []) h; long = length-set l at b }

pub put-none : (l : List ℕ) (at : ℕ) → at ≤ length l → Put l at [] at l
unfolding patch
put-none l at h = record { end = omega arith; bytes = sym (ap (λ (x : ℕ). take at l ++ drop x l) (let z : at + 0 ≡ at = omega arith in z) ∙ take-append-drop at l); long = refl }

pub put_then : {l m q : List ℕ} {at e r : ℕ} (v w : List ℕ) → at + length v + length w ≤ length l → Put l at v e m → Put m e w r q → Put l at (v ++ w) r q
put_then {l} {m} {q} {at} {e} {r} v w h a b = record {
  end = b.end ∙ ap (λ (x : ℕ). x + length w) a.end ∙ omega (arith, length-append v w);
  bytes = b.bytes ∙ ap₂ (λ (x : List ℕ) (y : ℕ). patch x y w) a.bytes a.end ∙ patch-both l at v w h;
  long = b.long ∙ a.long;
}

-- the same text, said otherwise
pub put_as : {l m : List ℕ} {at r : ℕ} {v w : List ℕ} → v ≡ w → Put l at v r m → Put l at w r m
put_as {l} {m} {at} {r} e p = subst (λ (x : List ℕ). Put l at x r m) e p

-- ---- a number, digit by digit

tens : (n : ℕ) → 10 ≤ n → n < 100000 → decimal n ≡ decimal (n / 10) ++ ((48 + n % 10) ∷ [])
tens n h l = many 4 n h ∙ ap (λ (s : List ℕ). s ++ ((48 + n % 10) ∷ [])) (sym (fuel 3 (n / 10) (omega arith)))

pub length_tens : (n : ℕ) → 10 ≤ n → n < 100000 → length (decimal n) ≡ length (decimal (n / 10)) + 1
length_tens n h l = ap length (tens n h l) ∙ length-append (decimal (n / 10)) ((48 + n % 10) ∷ [])

pub length-few : (n : ℕ) → n < 10 → length (decimal n) ≡ 1
length-few n h = ap length (few 4 n h)

pub put-few : {l m : List ℕ} {at r : ℕ} (n : ℕ) → n < 10 → Put l at ((48 + n) ∷ []) r m → Put l at (decimal n) r m
put-few n h p = put_as (sym (few 4 n h)) p

pub put_tens : {l m q : List ℕ} {at e r : ℕ} (n : ℕ) → 10 ≤ n → n < 100000 → at + length (decimal n) ≤ length l → Put l at (decimal (n / 10)) e m → Put m e ((48 + n % 10) ∷ []) r q → Put l at (decimal n) r q
put_tens n h l room a b = put_as (sym (tens n h l)) (put_then (decimal (n / 10)) ((48 + n % 10) ∷ []) (omega (arith, length_tens n h l)) a b)

-- ---- bits, one by one

pub halved : (word rest j : ℕ) → rest ≡ word / 2 ^ j → rest / 2 ≡ word / 2 ^ (j + 1)
halved word rest j e = ap (λ (x : ℕ). x / 2) e ∙ shr-shr word j 1

pub put-bit : {l m q : List ℕ} {at e r : ℕ} (word rest j : ℕ) → rest ≡ word / 2 ^ j → at + j + 1 ≤ length l → Put l at (bits j word) e m → Put m e ((48 + rest % 2) ∷ []) r q → Put l at (bits (j + 1) word) r q
put-bit {l} {m} {q} {at} {e} {r} word rest j s room a b =
    put_as (sym (bits-more j word)) (put_then (bits j word) (bit_at word j ∷ []) (omega (arith, length-bits j word)) a
    (subst (λ (x : ℕ). Put m e ((48 + x % 2) ∷ []) r q) s b))

pub put-start : (l : List ℕ) (at word : ℕ) → at ≤ length l → Put l at (bits 0 word) at l
unfolding bits listed
put-start l at word h = put-none l at h

-- ---- a word, as the part from `at` on that comes back

pub put_part : (l w v : List ℕ) (at : ℕ) → at + length w ≤ length l → v ≡ w → Put l at w (at + length w) (take at l ++ (v ++ drop (at + length w - at) (drop at l)))
unfolding patch
put_part l w v at h e =
    let k : at + (at + length w - at) ≡ at + length w = omega arith in
    let p : take at l ++ (v ++ drop (at + length w - at) (drop at l)) ≡ patch l at w = ap₂ (λ (x r : List ℕ). take at l ++ (x ++ r)) e (drop-drop (at + length w - at) at l ∙ ap (λ (i : ℕ). drop i l) k) in
    record { end = refl; bytes = p; long = ap length p ∙ length-patch l at w h }

-- ---- pieces

pub put_three : {l m p q : List ℕ} {at d e r : ℕ} (v w x : List ℕ) → at + length v + length w + length x ≤ length l
    → Put l at v d m → Put m d w e p → Put p e x r q → Put l at (v ++ (w ++ x)) r q
put_three v w x h a b c =
    put_then v (w ++ x) (omega (arith, length-append w x)) a (put_then w x (omega (arith, a.end, a.long)) b c)

pub put_four : {l m p q s : List ℕ} {at d e f r : ℕ} (v w x y : List ℕ) → at + length v + length w + length x + length y ≤ length l
    → Put l at v d m → Put m d w e p → Put p e x f q → Put q f y r s → Put l at (v ++ (w ++ (x ++ y))) r s
put_four v w x y h a b c d =
    put_then v (w ++ (x ++ y)) (omega (arith, length-append w (x ++ y), length-append x y)) a (put_three w x y (omega (arith, a.end, a.long)) b c d)

pub length-head : (k state input : ℕ) → length (row_head k state input) ≡ k + (2 + (length (decimal state) + 2))
unfolding row_head
length-head k state input = omega (arith, length-append (bits k input) (ascii " s" ++ (decimal state ++ ascii " s")), length-bits k input, length-append (decimal state) (ascii " s"))

pub length-tail : (o outs next : ℕ) → length (row_tail o outs next) ≡ length (decimal next) + (1 + (o + 1))
unfolding row_tail
length-tail o outs next = omega (arith, length-append (decimal next) (32 ∷ (bits o outs ++ (10 ∷ []))), length-bits o outs, length-append (bits o outs) (10 ∷ []))

-- a row has at most 38 bytes
pub rows-most : (k o state outs : ℕ) → k ≤ 6 → o ≤ 16 → (input : ℕ) (l : List ℕ) → length (state_rows k o state outs input l) ≤ length l * 38
unfolding state_rows
rows-most k o state outs hk ho input [] = omega arith
rows-most k o state outs hk ho input (a ∷ l) =
    omega (arith, suc-mul (length l) 38, rows-most k o state outs hk ho (suc input) l, length-append (row_head k state input) (row_tail o outs a ++ state_rows k o state outs (suc input) l), length-append (row_tail o outs a) (state_rows k o state outs (suc input) l), length-head k state input, length-tail o outs a, length-decimal 5 state, length-decimal 5 a)

pub length-line : (letter n : ℕ) → length (size_line letter n) ≡ 3 + (length (decimal n) + 1)
unfolding size_line
length-line letter n = omega (arith, length-append (decimal n) (10 ∷ []))

pub put-head : {l m p q s : List ℕ} {at d e f r : ℕ} (k state input : ℕ) → at + length (row_head k state input) ≤ length l
    → Put l at (bits k input) d m → Put m d (ascii " s") e p → Put p e (decimal state) f q → Put q f (ascii " s") r s → Put l at (row_head k state input) r s
unfolding row_head
put-head k state input h a b c d = put_four (bits k input) (ascii " s") (decimal state) (ascii " s") (omega (arith, length-head k state input, length-bits k input)) a b c d

pub put-tail : {l m p q s : List ℕ} {at d e f r : ℕ} (o outs next : ℕ) → at + length (row_tail o outs next) ≤ length l
    → Put l at (decimal next) d m → Put m d (32 ∷ []) e p → Put p e (bits o outs) f q → Put q f (10 ∷ []) r s → Put l at (row_tail o outs next) r s
unfolding row_tail
put-tail o outs next h a b c d = put_four (decimal next) (32 ∷ []) (bits o outs) (10 ∷ []) (omega (arith, length-tail o outs next, length-bits o outs)) a b c d

pub put-line : {l m p q s u : List ℕ} {at d e f g r : ℕ} (letter n : ℕ) → at + length (size_line letter n) ≤ length l
    → Put l at (46 ∷ []) d m → Put m d (letter ∷ []) e p → Put p e (32 ∷ []) f q → Put q f (decimal n) g s → Put s g (10 ∷ []) r u → Put l at (size_line letter n) r u
unfolding size_line
put-line letter n h a b c d e =
    let z = length-line letter n in
    put_then (46 ∷ []) (letter ∷ 32 ∷ (decimal n ++ (10 ∷ []))) (omega (arith, length-append (decimal n) (10 ∷ []))) a
    (put_four (letter ∷ []) (32 ∷ []) (decimal n) (10 ∷ []) (omega (arith, a.end, a.long)) b c d e)

-- ---- a whole, part by part

pub under_start : (l : List ℕ) (at : ℕ) (whole : List ℕ) → at + length whole ≤ length l → Under l at whole whole at l
under_start l at whole h = record { done = []; put = put-none l at (omega arith); split = refl }

-- the next part fits
pub under_room : {l m : List ℕ} {at e : ℕ} {whole : List ℕ} (w rest : List ℕ) → at + length whole ≤ length l → Under l at whole (w ++ rest) e m → e + length w ≤ length m
under_room w rest h u =
    let s = ap length u.split in
    omega (arith, length-append u.done (w ++ rest), length-append w rest, u.put.end, u.put.long)

pub under_on : {l m q : List ℕ} {at e r : ℕ} {whole : List ℕ} (w rest : List ℕ) → at + length whole ≤ length l → Under l at whole (w ++ rest) e m → Put m e w r q → Under l at whole rest r q
under_on w rest h u p = record {
  done = u.done ++ w;
  put = put_then u.done w (omega (arith, under_room w rest h u, u.put.end, u.put.long)) u.put p;
  split = append_assoc u.done w rest ∙ u.split;
}

pub under_end : {l m : List ℕ} {at e : ℕ} {whole : List ℕ} → Under l at whole [] e m → Put l at whole e m
under_end u = put_as (sym (append-nil u.done) ∙ u.split) u.put

-- the rest, said otherwise
pub under_as : {l m : List ℕ} {at e : ℕ} {whole rest other : List ℕ} → rest ≡ other → Under l at whole rest e m → Under l at whole other e m
under_as {l} {m} {at} {e} {whole} s u = subst (λ (x : List ℕ). Under l at whole x e m) s u
