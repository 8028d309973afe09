-- Laws of `patch`, which says what a store of several bytes leaves.
-- Assumes nothing.
use mathlib.Core.Path.{◌≡◌, sym, ap, ap₂, ◌∙◌}
use mathlib.Core.Logic.{◌⊎◌, inl, inr}
use Prim.Native.Nat.{ℕ, ◌+◌, ◌-◌, ◌≤◌, ◌<◌}
use native.Mathlib.Omega.{arith}
use mathlib.Core.List.{List, ◌++◌, append_assoc}
use lib.ListN.{length, get_or, take, drop, length-append, length-take, length-drop, get_or-append}
use lib.Seq.{sets, sets-eq, take_at, drop-append-add, drop-drop, get_or-take, get_or-drop, get_or-append-add, length-take-le}
use Rattle.file_law.specs.Bytes.{patch}

-- what straight-line stores leave
pub sets-patch : (l : List ℕ) (at : ℕ) (v : List ℕ) → at + length v ≤ length l → sets l at v ≡ patch l at v
unfolding patch
sets-patch l at v h = sets-eq v l at h ∙ append_assoc (take at l) v (drop (at + length v) l)

pub length-patch : (l : List ℕ) (at : ℕ) (v : List ℕ) → at + length v ≤ length l → length (patch l at v) ≡ length l
unfolding patch
length-patch l at v h = simp (length-append, length-take, length-drop) (omega arith)

-- stores one after the other, from the front
pub patch-next : (p l v : List ℕ) (at : ℕ) → length p ≡ at → at + length v ≤ length l → patch (p ++ drop at l) at v ≡ (p ++ v) ++ drop (at + length v) l
unfolding patch
patch-next p l v at e h =
    ap₂ (λ (x y : List ℕ). x ++ (v ++ y)) (take_at p (drop at l) at e)
    (ap (λ (k : ℕ). drop (k + length v) (p ++ drop at l)) (sym e) ∙ drop-append-add p (drop at l) (length v) ∙ drop-drop (length v) at l)
    ∙ sym (append_assoc p v (drop (at + length v) l))

-- .. and anywhere: two, the second where the first ends, are one
pub patch-both : (l : List ℕ) (at : ℕ) (v w : List ℕ) → at + length v + length w ≤ length l → patch (patch l at v) (at + length v) w ≡ patch l at (v ++ w)
unfolding patch
patch-both l at v w h =
    let e : at + length v + length w ≡ at + length (v ++ w) = simp length-append (omega arith) in
    ap (λ (x : List ℕ). patch x (at + length v) w) (sym (append_assoc (take at l) v (drop (at + length v) l)))
    ∙ patch-next (take at l ++ v) l w (at + length v) (simp length-append (omega (arith, length-take-le at l (omega arith)))) h
    ∙ ap (λ (k : ℕ). (take at l ++ v) ++ w ++ drop k l) e
    ∙ simp append_assoc

pub front : (l v : List ℕ) → patch l 0 v ≡ v ++ drop (length v) l
unfolding patch
front l v = let e : 0 + length v ≡ length v = omega arith in ap (λ (k : ℕ). v ++ drop k l) e

-- every byte before what is put in, and every byte behind it, stays
pub patch-outside : (l : List ℕ) (at : ℕ) (v : List ℕ) (k : ℕ) → at + length v ≤ length l → (k < at) ⊎ (at + length v ≤ k) → get_or (patch l at v) k 0 ≡ get_or l k 0
unfolding patch
patch-outside l at v k h (inl before) =
    get_or-append (take at l) (v ++ drop (at + length v) l) 0 k (omega (arith, length-take-le at l (omega arith))) ∙ get_or-take at l k 0 before
patch-outside l at v k h (inr behind) =
    let j = k - (at + length v) in
    let e : k ≡ length (take at l) + (length v + j) = omega (arith, length-take-le at l (omega arith)) in
    let f : at + length v + j ≡ k = omega arith in
    ap (λ (x : ℕ). get_or (take at l ++ (v ++ drop (at + length v) l)) x 0) e
    ∙ get_or-append-add (take at l) (v ++ drop (at + length v) l) (length v + j) 0
    ∙ get_or-append-add v (drop (at + length v) l) j 0
    ∙ get_or-drop (at + length v) l j 0
    ∙ ap (λ (x : ℕ). get_or l x 0) f
