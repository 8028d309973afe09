-- The laws of parts of a text: their bytes, and whether one stands at a place.
-- Assumes nothing.
use mathlib.Core.Bool.{Bool, ◌&&◌}
use mathlib.Core.Path.{◌≡◌, refl, sym, ◌∙◌, ap}
use mathlib.Core.List.{List, [], ◌∷◌}
use Prim.Native.Nat.{ℕ, zero, suc, ◌+◌, ◌-◌, ◌<◌, ◌≤◌, min}
use native.Mathlib.Decide.{dec_le}
use native.Mathlib.Numerals.{add-one}
use native.Mathlib.Omega.{arith}
use lib.Dec.{eqb}
use lib.ListN.{length, get_or, take, drop, length-take, length-drop}
use lib.Seq.{drop-cons, drop-nil, take-nil, get_or-take}
use Rattle.std.specs.Cmp.Lexicographic.{pointwise}
use Rattle.std.proofs.lemmas.List.{take_min}
use Rattle.language.specs.Scan.{begins}
use Rattle.language.proofs.ScanLaws.{first_byte}
use Rattle.spellings.specs.Part.{part}

pub drop_past : (s : List ℕ) (a : ℕ) → length s ≤ a → drop a s ≡ []
drop_past [] a h = drop-nil a
drop_past (x ∷ s) zero h = absurd (omega arith)
drop_past (x ∷ s) (suc a) h = drop_past s a (omega arith)

pub part_length : (s : List ℕ) (a e : ℕ) → length (part s a e) ≡ min (e - a) (length s - a)
unfolding part
part_length s a e = simp (length-take, length-drop)

pub part_none : (s : List ℕ) (a e : ℕ) → e ≤ a → part s a e ≡ []
unfolding part
part_none s a e h = let z : e - a ≡ 0 = omega arith in rw z

pub part-past : (s : List ℕ) (a e : ℕ) → length s ≤ a → part s a e ≡ []
unfolding part
part-past s a e h = rw (drop_past s a h) (take-nil (e - a))

pub part-cons : (s : List ℕ) (a e : ℕ) → a < e → a < length s → part s a e ≡ get_or s a 0 ∷ part s (a + 1) e
unfolding part
part-cons s a e h k =
    let z : e - a ≡ suc (e - (a + 1)) = omega arith in
    rw (z, drop-cons s a 0 k, add-one)

-- the first byte of a part
pub opens : (s : List ℕ) (at : ℕ) → at < length s → (e : ℕ) → at < e → get_or (part s at e) 0 0 ≡ get_or s at 0
unfolding part
opens s at h e g = get_or-take (e - at) (drop at s) 0 0 (omega arith) ∙ first_byte s at

-- the part of a text that is cut to its length
pub part_cut : (s : List ℕ) (a e : ℕ) → take (min e (length s) - min a (min e (length s))) (drop (min a (min e (length s))) s) ≡ part s a e
unfolding part
part_cut s a e = go (dec_le a (min e (length s)))
  where
    none : ¬ (a ≤ min e (length s)) → Dec (e ≤ a) → part s a e ≡ []
    none h (yes k) = part_none s a e k
    none h (no k) = part-past s a e (omega arith)

    go : Dec (a ≤ min e (length s)) → take (min e (length s) - min a (min e (length s))) (drop (min a (min e (length s))) s) ≡ part s a e
    go (yes h) =
        let i : min a (min e (length s)) ≡ a = omega arith in
        let n : min e (length s) - a ≡ min (e - a) (length (drop a s)) = omega (arith, length-drop a s) in
        rw (i, n) (take_min (e - a) (drop a s))
    go (no h) =
        let n : min e (length s) - min a (min e (length s)) ≡ 0 = omega arith in
        rw n (sym (none h (dec_le e a)))

-- ---- a part stands at a place

pub starts-begins : (l w : List ℕ) → pointwise eqb w (take (length w) l) ≡ begins l w
unfolding begins
starts-begins l [] = refl
starts-begins [] (x ∷ w) = refl
starts-begins (y ∷ l) (x ∷ w) = ap (λ (b : Bool). eqb x y && b) (starts-begins l w)

pub drop_cut : (i : ℕ) (l : List ℕ) → drop (min i (length l)) l ≡ drop i l
drop_cut i l = go (dec_le i (length l))
  where
    go : Dec (i ≤ length l) → drop (min i (length l)) l ≡ drop i l
    go (yes h) = ap (λ (j : ℕ). drop j l) (omega arith)
    go (no h) = drop_past l (min i (length l)) (omega arith) ∙ sym (drop_past l i (omega arith))
