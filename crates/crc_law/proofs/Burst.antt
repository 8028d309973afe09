-- What the check is worth: a change inside four neighbouring bytes always shows, the check's own bytes included.
-- Assumes nothing.
use mathlib.Core.Path.{◌≡◌, sym, ap, ap₂, ◌∙◌}
use Prim.Native.Nat.{ℕ, ◌+◌, ◌-◌, ◌*◌, ◌^◌, ◌<◌}
use native.Mathlib.Nat.{mod-eq_of_lt}
use native.Mathlib.Omega.{arith}
use mathlib.Core.List.{List, ◌++◌}
use lib.ListN.{length, take, drop, take-append-drop, length-take, length-drop}
use lib.Seq.{get_or-take, get_or-drop, ext_get_or}
use lib.Bits.{bit_xor, bit_and, xor_add_and, and_mask}
use Rattle.crc_law.specs.Crc.{ones, step_bits, register, crc_of, AllBytes, Checked}
use Rattle.crc_law.specs.Change.{SameOutside}
use Rattle.crc_law.proofs.Xor.{xor_cancel}
use Rattle.crc_law.proofs.Bytes.{bytes_take, bytes_drop}
use Rattle.crc_law.proofs.Range.{register-lt}
use Rattle.crc_law.proofs.Lossless.{register_inj}
use Rattle.crc_law.proofs.Run.{register-append, register-run, run_inj}

-- the list in three parts: up to i, the four places from i on, and the rest
parts : (r i : ℕ) (s : List ℕ) → register r s ≡ register (register (register r (take i s)) (take 4 (drop i s))) (drop 4 (drop i s))
parts r i s =
    ap (register r) (sym (take-append-drop i s))
    ∙ register-append r (take i s) (drop i s)
    ∙ ap (register (register r (take i s))) (sym (take-append-drop 4 (drop i s)))
    ∙ register-append (register r (take i s)) (take 4 (drop i s)) (drop 4 (drop i s))

-- from one register, two lists that differ inside four neighbouring places at most and end in one register are the same
pub same-register : (r i : ℕ) (s t : List ℕ) → r < 2 ^ 32 → AllBytes s → AllBytes t → SameOutside i s t → register r s ≡ register r t → s ≡ t
same-register r i s t hr hs ht d e =
    sym (take-append-drop i s)
    ∙ ap₂ (λ (x y : List ℕ). x ++ y) front (sym (take-append-drop 4 (drop i s)) ∙ ap₂ (λ (x y : List ℕ). x ++ y) middle rest ∙ take-append-drop 4 (drop i t))
    ∙ take-append-drop i t
  where
    l : length s ≡ length t
    l = d.size

    front : take i s ≡ take i t
    front = ext_get_or 0 (take i s) (take i t) (simp length-take (omega arith)) (λ k h. let b : k < i = omega (arith, simp length-take at h) in get_or-take i s k 0 b ∙ d.before k b ∙ sym (get_or-take i t k 0 b))

    rest : drop 4 (drop i s) ≡ drop 4 (drop i t)
    rest = ext_get_or 0 (drop 4 (drop i s)) (drop 4 (drop i t)) (simp length-drop (omega arith)) (λ k h. simp get_or-drop (d.behind (i + (4 + k)) (omega arith)))

    P : ℕ
    P = register r (take i s)

    h_p : P < 2 ^ 32
    h_p = register-lt r (take i s) hr (bytes_take i s hs)

    ws : AllBytes (take 4 (drop i s))
    ws = bytes_take 4 (drop i s) (bytes_drop i s hs)

    wt : AllBytes (take 4 (drop i t))
    wt = bytes_take 4 (drop i t) (bytes_drop i t ht)

    whole : register (register P (take 4 (drop i s))) (drop 4 (drop i s)) ≡ register (register P (take 4 (drop i t))) (drop 4 (drop i s))
    whole = sym (parts r i s) ∙ e ∙ parts r i t
        ∙ ap₂ (λ (x y : List ℕ). register (register (register r x) (take 4 (drop i t))) y) (sym front) (sym rest)

    middle : take 4 (drop i s) ≡ take 4 (drop i t)
    middle = run_inj P (take 4 (drop i s)) (take 4 (drop i t)) h_p (simp (length-take, length-drop) (omega arith)) (simp length-take (omega arith)) ws wt
        (register_inj (register P (take 4 (drop i s))) (register P (take 4 (drop i t))) (drop 4 (drop i s))
        (register-lt P (take 4 (drop i s)) h_p ws) (register-lt P (take 4 (drop i t)) h_p wt) (bytes_drop 4 (drop i s) (bytes_drop i s hs)) whole)

-- two lists of bytes that differ inside four neighbouring places at most and have one check are the same
pub change-shows : (i : ℕ) (s t : List ℕ) → AllBytes s → AllBytes t → SameOutside i s t → crc_of s ≡ crc_of t → s ≡ t
unfolding crc_of
change-shows i s t hs ht d e =
    let ls = register-lt ones s (omega arith) hs in
    let lt = register-lt ones t (omega arith) ht in
    let same : register ones s ≡ register ones t = omega arith in
    same-register ones i s t (omega arith) hs ht d same

xor_ones : (a : ℕ) → a < 2 ^ 32 → bit_xor a ones ≡ ones - a
xor_ones a h =
    let m : bit_and a ones ≡ a = and_mask a 32 ∙ mod-eq_of_lt h in
    let x = xor_add_and a ones in
    omega arith

-- every list with its right check behind it leaves the same register
pub residue : (n : ℕ) (s : List ℕ) → AllBytes s → length s ≡ n + 4 → Checked n s → register ones s ≡ step_bits 32 ones
unfolding crc_of
residue n s h l e =
    let t = drop n s in
    let R = register ones (take n s) in
    let hR : R < 2 ^ 32 = register-lt ones (take n s) (omega arith) (bytes_take n s h) in
    let bits : 8 * length t ≡ 32 = simp length-drop (omega arith) in
    ap (register ones) (sym (take-append-drop n s))
    ∙ register-append ones (take n s) t
    ∙ register-run R t (bytes_drop n s h)
    ∙ ap₂ (λ (k x : ℕ). step_bits k (bit_xor R x)) bits (e ∙ sym (xor_ones R hR))
    ∙ ap (step_bits 32) (xor_cancel R ones)

-- two lists with a right check behind n bytes, that differ inside four neighbouring places at most, are the same
pub burst : (n i : ℕ) (s t : List ℕ) → AllBytes s → AllBytes t → length s ≡ n + 4 → Checked n s → Checked n t → SameOutside i s t → s ≡ t
burst n i s t hs ht ls cs ct d =
    same-register ones i s t (omega arith) hs ht d (residue n s hs ls cs ∙ sym (residue n t ht (sym d.size ∙ ls) ct))
